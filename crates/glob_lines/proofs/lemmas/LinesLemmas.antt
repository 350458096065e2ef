-- The lines of bytes: the relation and the equations agree.
use Rattle.std.proofs.Common.{◌≡◌, ◌≢◌, inl, inr, ⊎_elim, ℕ, zero, suc, ◌+◌, ◌<◌, ◌≤◌, cond, List, [], ◌∷◌, ◌++◌, length, length-append, take, drop, Some, None, refl, sym, ap, subst, ◌∙◌, append_assoc, append-nil, le_refl, arith}
use Rattle.std.specs.List.{AllZip, onto_first}
use Rattle.std.proofs.lemmas.Bool.{ne_eqb}
use Rattle.std.proofs.lemmas.Bool.Decides.{eqb_tells}
use Rattle.std.proofs.lemmas.List.{flat_map_more}
use Rattle.std.proofs.lemmas.List.Elements.{AllZip-push}
use Rattle.memchr.specs.Find.{IsFirstByte, is_byte}
use Rattle.glob_lines.specs.Lines.{CutsLine, EndsInFeed, Lines, WritesLines, line_feed, text_of_lines}
use Rattle.byte_streams.proofs.lemmas.CutLemmas.{HasNo-not_found, IsCutAt-found}
use Rattle.byte_streams.specs.Records.{HasNo}
use Rattle.glob_lines.specs.Equations.Lines.{lines_of}

-- ---- the equations, a line at a time

-- a byte before the first line feed goes onto the first line
lines_of-cons : (b : ℕ) (bytes : List ℕ) → b ≢ line_feed → lines_of (b ∷ bytes) ≡ onto_first b (lines_of bytes)
lines_of-cons b bytes apart =
    ap (λ test. cond test ([] ∷ lines_of bytes) (onto_first b (lines_of bytes))) (ne_eqb b line_feed apart)

pub lines_of-line : (text rest : List ℕ) → HasNo line_feed text → lines_of (text ++ line_feed ∷ rest) ≡ text ∷ lines_of rest
lines_of-line [] rest h = refl
lines_of-line (b ∷ text) rest h = lines_of-cons b (text ++ line_feed ∷ rest) h.0 ∙ ap (onto_first b) (lines_of-line text rest h.1)

pub lines_of-last : (text : List ℕ) → text ≢ [] → HasNo line_feed text → lines_of text ≡ text ∷ []
lines_of-last [] some h = absurd (some refl)
lines_of-last (b ∷ []) some h = lines_of-cons b [] h.0
lines_of-last (b ∷ c ∷ text) some h = lines_of-cons b (c ∷ text) h.0 ∙ ap (onto_first b) (lines_of-last (c ∷ text) (λ e. cc) h.1)

-- ---- the relation and the equations

-- bytes of which a first line can be cut off
pub record HasLine (Ends : List ℕ → List ℕ → Type 0) (bytes : List ℕ) : Type 0 where
  pub line : List ℕ
  pub rest : List ℕ
  pub cut : CutsLine Ends bytes line rest

-- `lines` gives by equation the lines whose endings `Ends` tells
pub record TellsLines (Ends : List ℕ → List ℕ → Type 0) (lines : List ℕ → List (List ℕ)) : Type 0 where
  pub none : lines [] ≡ []
  pub first : (bytes line rest : List ℕ) → CutsLine Ends bytes line rest → lines bytes ≡ line ∷ lines rest
  pub shorter : (bytes line rest : List ℕ) → CutsLine Ends bytes line rest → length rest < length bytes
  pub some : (b : ℕ) (bytes : List ℕ) → HasLine Ends (b ∷ bytes)

module _ (Ends : List ℕ → List ℕ → Type 0) (lines : List ℕ → List (List ℕ)) (tells : TellsLines Ends lines) where
  -- no other texts are the lines of the bytes
  pub Lines-only : (bytes : List ℕ) (texts : List (List ℕ)) → Lines Ends bytes texts → texts ≡ lines bytes
  Lines-only bytes [] none = sym (ap lines none ∙ tells.none)
  Lines-only bytes (text ∷ texts) h = ap (λ l. text ∷ l) (Lines-only h.0 texts h.2) ∙ sym (tells.first bytes text h.0 h.1)

  Lines-up_to : (n : ℕ) (bytes : List ℕ) → length bytes ≤ n → Lines Ends bytes (lines bytes)
  Lines-up_to n [] low = subst (Lines Ends []) (sym tells.none) refl
  Lines-up_to zero (b ∷ bytes) low = absurd (omega arith)
  Lines-up_to (suc n) (b ∷ bytes) low =
      let first = tells.some b bytes in
      let shorter = tells.shorter (b ∷ bytes) first.line first.rest first.cut in
      subst (Lines Ends (b ∷ bytes)) (sym (tells.first (b ∷ bytes) first.line first.rest first.cut))
      (first.rest, first.cut, Lines-up_to n first.rest (omega arith))

  -- the equations give the lines of the bytes
  pub Lines-are : (bytes : List ℕ) → Lines Ends bytes (lines bytes)
  Lines-are bytes = Lines-up_to (length bytes) bytes (le_refl _)

-- ---- a line that was cut off

some_bytes : (bytes : List ℕ) → bytes ≢ [] → 0 < length bytes
some_bytes [] some = absurd (some refl)
some_bytes (b ∷ bytes) some = omega arith

module _ (Ends : List ℕ → List ℕ → Type 0) (bytes line rest : List ℕ) (cut : CutsLine Ends bytes line rest) where
  -- what has this ending
  pub CutsLine-by : (ending : List ℕ) → cut.ending ≡ ending → bytes ≡ line ++ (ending ++ rest)
  CutsLine-by ending is = cut.joined ∙ ap (λ l. line ++ (l ++ rest)) is

  -- what has none, and no rest, is the line
  pub CutsLine-open : cut.ending ≡ [] → rest ≡ [] → bytes ≡ line
  CutsLine-open none last = CutsLine-by [] none ∙ ap (λ l. line ++ l) last ∙ append-nil line

  pub CutsLine-shorter : ((ending : List ℕ) → Ends line ending → 0 < length ending) → length rest < length bytes
  CutsLine-shorter some =
      let parts : length bytes ≡ length line + length (cut.ending ++ rest) = ap length cut.joined ∙ length-append line (cut.ending ++ rest) in
      let behind = length-append cut.ending rest in
      ⊎_elim
      (λ (ends : Ends line cut.ending). let more = some cut.ending ends in omega arith)
      (λ (bare : (line ≢ []) × (cut.ending ≡ []) × (rest ≡ [])). let more = some_bytes line bare.0 in let none = ap length bare.2 in omega arith)
      cut.ended

-- ---- lines that end in a line feed

pub first_line_cut : (bytes line rest : List ℕ) → CutsLine EndsInFeed bytes line rest → lines_of bytes ≡ line ∷ lines_of rest
first_line_cut bytes line rest cut =
    ⊎_elim
    (λ (feed : cut.ending ≡ line_feed ∷ []). ap lines_of (CutsLine-by EndsInFeed bytes line rest cut (line_feed ∷ []) feed) ∙ lines_of-line line rest cut.whole)
    (λ (bare : (line ≢ []) × (cut.ending ≡ []) × (rest ≡ [])).
    ap lines_of (CutsLine-open EndsInFeed bytes line rest cut bare.1 bare.2) ∙ lines_of-last line bare.0 cut.whole ∙ sym (ap (λ l. line ∷ lines_of l) bare.2))
    cut.ended

feed_first : (b : ℕ) (bytes : List ℕ) → b ≡ line_feed → HasLine EndsInFeed (b ∷ bytes)
feed_first b bytes is = record { line = []; rest = bytes; cut = record { whole = tt; ending = line_feed ∷ []; joined = ap (λ x. x ∷ bytes) is; ended = inl refl } }

pub has_line : (b : ℕ) (bytes : List ℕ) → HasLine EndsInFeed (b ∷ bytes)
has_line b [] =
    ⊎_elim
    (λ is. feed_first b [] is.1)
    (λ is. record { line = b ∷ []; rest = []; cut = record { whole = (is.1, tt); ending = []; joined = refl; ended = inr (λ e. cc, refl, refl) } })
    (eqb_tells b line_feed)
has_line b (c ∷ bytes) =
    let more = has_line c bytes in
    ⊎_elim
    (λ is. feed_first b (c ∷ bytes) is.1)
    (λ is. record {
      line = b ∷ more.line;
      rest = more.rest;
      cut = record {
        whole = (is.1, more.cut.whole);
        ending = more.cut.ending;
        joined = ap (λ l. b ∷ l) more.cut.joined;
        ended = ⊎_elim (λ feed. inl feed) (λ bare. inr (λ e. cc, bare.1, bare.2)) more.cut.ended;
      };
    })
    (eqb_tells b line_feed)

pub TellsLines-lines_of : TellsLines EndsInFeed lines_of
TellsLines-lines_of = record {
  none = refl;
  first = first_line_cut;
  shorter = λ bytes line rest cut. CutsLine-shorter EndsInFeed bytes line rest cut (λ ending is. omega (arith, ap length is));
  some = has_line;
}

-- ---- what a search for the first line feed tells

pub first_line : (bytes : List ℕ) (end : ℕ) → IsFirstByte (is_byte line_feed) bytes (Some end) → lines_of bytes ≡ take end bytes ∷ lines_of (drop (end + 1) bytes)
first_line bytes end h =
    let cut = IsCutAt-found line_feed bytes end h in
    ap lines_of cut.joined ∙ lines_of-line (take end bytes) (drop (end + 1) bytes) cut.none

pub last_line : (bytes : List ℕ) → 0 < length bytes → IsFirstByte (is_byte line_feed) bytes None → lines_of bytes ≡ bytes ∷ []
last_line bytes some h =
    lines_of-last bytes (λ e. absurd (subst (λ l. 0 < length l → ⊥) (sym e) (λ less. omega arith) some)) (HasNo-not_found line_feed bytes h)

-- ---- one line written after the other

-- of all lines, those before the rest have their lines in the text
pub record IsWrittenUpTo (P : List ℕ → List ℕ → Type 0) (all rest : List (List ℕ)) (text : List ℕ) : Type 0 where
  pub done : List (List ℕ)
  pub split : all ≡ done ++ rest
  pub written : List (List ℕ)
  pub each : AllZip P done written
  pub joined : text ≡ text_of_lines written

pub IsWrittenUpTo-none : (P : List ℕ → List ℕ → Type 0) (all : List (List ℕ)) (text : List ℕ) → text ≡ [] → IsWrittenUpTo P all all text
IsWrittenUpTo-none P all text is = record { done = []; split = refl; written = []; each = tt; joined = is }

pub IsWrittenUpTo-more : (P : List ℕ → List ℕ → Type 0) (all rest more : List (List ℕ)) (text new line written : List ℕ) → IsWrittenUpTo P all rest text → rest ≡ line ∷ more → P line written
    → new ≡ text ++ (written ++ line_feed ∷ []) → IsWrittenUpTo P all more new
IsWrittenUpTo-more P all rest more text new line written h is p e = record {
  done = h.done ++ line ∷ [];
  split = h.split ∙ ap (λ l. h.done ++ l) is ∙ sym (append_assoc h.done (line ∷ []) more);
  written = h.written ++ written ∷ [];
  each = AllZip-push P h.done h.written line written h.each p;
  joined = e ∙ ap (λ l. l ++ (written ++ line_feed ∷ [])) h.joined ∙ flat_map_more (λ text. text ++ line_feed ∷ []) [] h.written written;
}

pub IsWrittenUpTo-all : (P : List ℕ → List ℕ → Type 0) (input : List ℕ) (rest : List (List ℕ)) (text : List ℕ) → IsWrittenUpTo P (lines_of input) rest text → rest ≡ [] → WritesLines P input text
IsWrittenUpTo-all P input rest text h none = record {
  lines = lines_of input;
  cut = Lines-are EndsInFeed lines_of TellsLines-lines_of input;
  written = h.written;
  each = subst (λ lines. AllZip P lines h.written) (sym (h.split ∙ ap (λ l. h.done ++ l) none ∙ append-nil h.done)) h.each;
  joined = h.joined;
}

-- ---- how many

length-onto_first-le : (b : ℕ) (texts : List (List ℕ)) → length (onto_first b texts) ≤ suc (length texts)
length-onto_first-le b [] = omega arith
length-onto_first-le b (text ∷ texts) = omega arith

pub length-lines_of-le : (bytes : List ℕ) → length (lines_of bytes) ≤ length bytes
length-lines_of-le [] = omega arith
length-lines_of-le (b ∷ bytes) =
    let fewer = length-lines_of-le bytes in
    let first = length-onto_first-le b (lines_of bytes) in
    ⊎_elim
    (λ is. rw is.0 (omega arith))
    (λ is. rw is.0 (omega arith))
    (eqb_tells b line_feed)
