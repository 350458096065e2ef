-- The lines of an ignore file: endings, comments, and the entries of all lines.
use Rattle.std.proofs.Common.{◌≡◌, ◌≢◌, ◌⊎◌, inl, inr, ⊎_elim, ℕ, ◌-◌, ◌<◌, ◌≤◌, Bool, true, false, cond, ◌&&◌, List, [], ◌∷◌, ◌++◌, length, take, Option, None, Some, refl, sym, ap, subst, ◌∙◌, append_assoc, append-nil, length-append, length-drop, le_refl, arith}
use Rattle.std.specs.Prelude.{◌==◌, MatchOption, nat_eq}
use Rattle.std.specs.List.{starts_with}
use Rattle.std.specs.Option.{option_map}
use Rattle.std.proofs.lemmas.Bool.Decides.{Decides-eqb}
use Rattle.std.proofs.lemmas.List.{append_cancel_left}
use Rattle.std.proofs.lemmas.Slice.Eq.{ends_is}
use Rattle.std.proofs.lemmas.Bool.{cases_Bool, false≢true, ne_eqb}
use Rattle.glob_lines.specs.Lines.{CutsLine, EndsInFeed, line_feed}
use Rattle.byte_streams.specs.Records.{HasNo, IsCutAt}
use Rattle.glob_lines.specs.Equations.Lines.{lines_of}
use Rattle.glob_lines.specs.Equations.Entries.{LineContent}
use Rattle.glob_lines.specs.Private.Trimming.{ends_in_return}
use Rattle.glob_lines.specs.GitLines.{return_of}
use Rattle.glob_lines.specs.Ignore.{BeginsWithLine, EndsIgnoreLine, GivesTrimmed, Trims, is_comment, without_mark}
use Rattle.glob_lines.specs.Equations.Ignore.{carriage_return, ignore_content, text_before_spaces, without_returns}
use Rattle.glob_lines.proofs.lemmas.ListLemmas.{AllByRecursion-append_parts}
use Rattle.glob_lines.proofs.lemmas.LinesLemmas.{CutsLine-by, CutsLine-open, CutsLine-shorter, HasLine, TellsLines, has_line, length-lines_of-le, lines_of-last, lines_of-line}
use Rattle.glob_lines.proofs.lemmas.EntriesLemmas.{Tells}
use Rattle.glob_lines.proofs.lemmas.TrimLemmas.{Trims-only, Trims-text_before_spaces}

-- ---- carriage returns

abbrev begins_with_feed : List ℕ → Bool
begins_with_feed bytes = starts_with nat_eq bytes (line_feed ∷ [])

-- a byte after which no line feed comes stays
stays : (b : ℕ) (bytes : List ℕ) → begins_with_feed bytes ≡ false → without_returns (b ∷ bytes) ≡ b ∷ without_returns bytes
stays b bytes none =
    ⊎_elim
    (λ (yes : (b == carriage_return) ≡ true). rw (yes, none) refl)
    (λ (no : (b == carriage_return) ≡ false). rw (no) refl)
    (cases_Bool (b == carriage_return))

-- a byte that is no carriage return stays
other_stays : (b : ℕ) (bytes : List ℕ) → b ≢ carriage_return → without_returns (b ∷ bytes) ≡ b ∷ without_returns bytes
other_stays b bytes other = rw (ne_eqb b carriage_return other) refl

no_feed_next : (c : ℕ) (bytes : List ℕ) → c ≢ line_feed → begins_with_feed (c ∷ bytes) ≡ false
no_feed_next c bytes other = rw (ne_eqb line_feed c (λ is. other (sym is))) refl

-- what stands before a byte that is no line feed stays, but for the rules of that byte
pub without_returns-front : (front : List ℕ) (c : ℕ) (bytes : List ℕ) → HasNo line_feed front → c ≢ line_feed → without_returns (front ++ c ∷ bytes) ≡ front ++ without_returns (c ∷ bytes)
without_returns-front [] c bytes none other = refl
without_returns-front (b ∷ []) c bytes none other = stays b (c ∷ bytes) (no_feed_next c bytes other)
without_returns-front (b ∷ d ∷ front) c bytes none other =
    stays b (d ∷ (front ++ c ∷ bytes)) (no_feed_next d (front ++ c ∷ bytes) none.1.0)
    ∙ ap (λ l. b ∷ l) (without_returns-front (d ∷ front) c bytes none.1 other)

-- a line's carriage return
pub without_returns-return : (line rest : List ℕ) → HasNo line_feed line → without_returns ((line ++ carriage_return ∷ []) ++ line_feed ∷ rest) ≡ line ++ line_feed ∷ without_returns rest
without_returns-return line rest none =
    let other : carriage_return ≢ line_feed = λ (is : carriage_return ≡ line_feed). absurd (omega arith) in
    ap without_returns (append_assoc line (carriage_return ∷ []) (line_feed ∷ rest))
    ∙ without_returns-front line carriage_return (line_feed ∷ rest) none other

-- a line whose last byte is no carriage return
without_returns-last : (front : List ℕ) (c : ℕ) (rest : List ℕ) → HasNo line_feed front → c ≢ line_feed → c ≢ carriage_return → without_returns (front ++ c ∷ line_feed ∷ rest) ≡ (front ++ c ∷ []) ++ line_feed ∷ without_returns rest
without_returns-last front c rest none feed other =
    without_returns-front front c (line_feed ∷ rest) none feed
    ∙ ap (λ l. front ++ l) (other_stays c (line_feed ∷ rest) other)
    ∙ sym (append_assoc front (c ∷ []) (line_feed ∷ without_returns rest))

record HasLast (bytes : List ℕ) : Type 0 where
  front : List ℕ
  last : ℕ
  is : bytes ≡ front ++ last ∷ []

last_of : (b : ℕ) (bytes : List ℕ) → HasLast (b ∷ bytes)
last_of b [] = record { front = []; last = b; is = refl }
last_of b (c ∷ bytes) = let h = last_of c bytes in record { front = b ∷ h.front; last = h.last; is = ap (λ l. b ∷ l) h.is }

pub without_returns-other : (line rest : List ℕ) → HasNo line_feed line → ((before : List ℕ) → line ≢ before ++ carriage_return ∷ []) → without_returns (line ++ line_feed ∷ rest) ≡ line ++ line_feed ∷ without_returns rest
without_returns-other [] rest none other = refl
without_returns-other (b ∷ bytes) rest none other =
    let h = last_of b bytes in
    let line = b ∷ bytes in
    let parts = AllByRecursion-append_parts (λ b. b ≢ line_feed) h.front (h.last ∷ []) (subst (HasNo line_feed) h.is none) in
    let dark : h.last ≢ carriage_return = λ (is : h.last ≡ carriage_return). other h.front (h.is ∙ ap (λ x. h.front ++ x ∷ []) is) in
    ap (λ l. without_returns (l ++ line_feed ∷ rest)) h.is
    ∙ ap without_returns (append_assoc h.front (h.last ∷ []) (line_feed ∷ rest))
    ∙ without_returns-last h.front h.last rest parts.0 parts.1.0 dark
    ∙ sym (ap (λ l. l ++ line_feed ∷ without_returns rest) h.is)

pub without_returns-none : (bytes : List ℕ) → HasNo line_feed bytes → without_returns bytes ≡ bytes
without_returns-none [] none = refl
without_returns-none (b ∷ []) none = stays b [] refl
without_returns-none (b ∷ c ∷ bytes) none = stays b (c ∷ bytes) (no_feed_next c bytes none.1.0) ∙ ap (λ l. b ∷ l) (without_returns-none (c ∷ bytes) none.1)

-- ---- the first line

-- a line's ending has a byte
ending_has_bytes : (line ending : List ℕ) → EndsIgnoreLine line ending → 0 < length ending
ending_has_bytes line ending (inl both) = omega (arith, ap length both)
ending_has_bytes line ending (inr feed) = omega (arith, ap length feed.0)

pub CutsLine-shorter_by : (bytes line rest : List ℕ) → CutsLine EndsIgnoreLine bytes line rest → length rest < length bytes
CutsLine-shorter_by bytes line rest cut = CutsLine-shorter EndsIgnoreLine bytes line rest cut (ending_has_bytes line)

no_return : (line : List ℕ) → ends_in_return line ≡ false → (before : List ℕ) → line ≢ before ++ carriage_return ∷ []
no_return line other before is = false≢true (sym other ∙ (ends_is Decides-eqb line (carriage_return ∷ []) (ends_in_return line) refl).1 before is)

-- without the carriage returns it is cut off by a line feed
ignore_line_cut : (bytes line rest : List ℕ) → CutsLine EndsIgnoreLine bytes line rest → lines_of (without_returns bytes) ≡ line ∷ lines_of (without_returns rest)
ignore_line_cut bytes line rest cut =
    let by = CutsLine-by EndsIgnoreLine bytes line rest cut in
    ⊎_elim
    (λ (ends : EndsIgnoreLine line cut.ending). ⊎_elim
    (λ (both : cut.ending ≡ carriage_return ∷ line_feed ∷ []).
    ap (λ l. lines_of (without_returns l)) (by (carriage_return ∷ line_feed ∷ []) both ∙ sym (append_assoc line (carriage_return ∷ []) (line_feed ∷ rest)))
    ∙ ap lines_of (without_returns-return line rest cut.whole) ∙ lines_of-line line (without_returns rest) cut.whole)
    (λ (feed : (cut.ending ≡ line_feed ∷ []) × (ends_in_return line ≡ false)).
    ap (λ l. lines_of (without_returns l)) (by (line_feed ∷ []) feed.0)
    ∙ ap lines_of (without_returns-other line rest cut.whole (no_return line feed.1)) ∙ lines_of-line line (without_returns rest) cut.whole)
    ends)
    (λ (bare : (line ≢ []) × (cut.ending ≡ []) × (rest ≡ [])).
    ap (λ l. lines_of (without_returns l)) (CutsLine-open EndsIgnoreLine bytes line rest cut bare.1 bare.2)
    ∙ ap lines_of (without_returns-none line cut.whole) ∙ lines_of-last line bare.0 cut.whole ∙ sym (ap (λ l. line ∷ lines_of (without_returns l)) bare.2))
    cut.ended

-- what stands before a line feed, without its carriage return
pub CutsLine-before_feed : (bytes line text rest : List ℕ) → IsCutAt line_feed bytes line rest → line ≡ text ++ return_of line → CutsLine EndsIgnoreLine bytes text rest
CutsLine-before_feed bytes line text rest h parts =
    ⊎_elim
    (λ (yes : ends_in_return line ≡ true).
    let is : line ≡ text ++ carriage_return ∷ [] = parts ∙ ap (λ b. text ++ cond b (carriage_return ∷ []) []) yes in record {
      whole = (AllByRecursion-append_parts (λ b. b ≢ line_feed) text (carriage_return ∷ []) (subst (HasNo line_feed) is h.none)).0;
      ending = carriage_return ∷ line_feed ∷ [];
      joined = h.joined ∙ ap (λ l. l ++ line_feed ∷ rest) is ∙ append_assoc text (carriage_return ∷ []) (line_feed ∷ rest);
      ended = inl (inl refl);
    })
    (λ (no : ends_in_return line ≡ false).
    let same : line ≡ text = parts ∙ ap (λ b. text ++ cond b (carriage_return ∷ []) []) no ∙ append-nil text in record {
      whole = subst (HasNo line_feed) same h.none;
      ending = line_feed ∷ [];
      joined = h.joined ∙ ap (λ l. l ++ line_feed ∷ rest) same;
      ended = inl (inr (refl, ap ends_in_return (sym same) ∙ no));
    })
    (cases_Bool (ends_in_return line))

pub CutsLine-last : {Ends : List ℕ → List ℕ → Type 0} (bytes : List ℕ) → bytes ≢ [] → HasNo line_feed bytes → CutsLine Ends bytes bytes []
CutsLine-last bytes some none = record { whole = none; ending = []; joined = sym (append-nil bytes); ended = inr (some, refl, refl) }

pub before_return : (line : List ℕ) → (text : List ℕ) × (line ≡ text ++ return_of line)
before_return line =
    let front = take (length line - 1) line in
    ⊎_elim
    (λ (yes : ends_in_return line ≡ true). (front, (ends_is Decides-eqb line (carriage_return ∷ []) (ends_in_return line) refl).0 yes ∙ sym (ap (λ b. front ++ cond b (carriage_return ∷ []) []) yes)))
    (λ (no : ends_in_return line ≡ false). (line, sym (ap (λ b. line ++ cond b (carriage_return ∷ []) []) no ∙ append-nil line)))
    (cases_Bool (ends_in_return line))

has_ignore_line : (b : ℕ) (bytes : List ℕ) → HasLine EndsIgnoreLine (b ∷ bytes)
has_ignore_line b bytes =
    let plain = has_line b bytes in
    let cut = plain.cut in
    ⊎_elim
    (λ (feed : cut.ending ≡ line_feed ∷ []).
    let text = before_return plain.line in
    let at : IsCutAt line_feed (b ∷ bytes) plain.line plain.rest = record { none = cut.whole; joined = CutsLine-by EndsInFeed (b ∷ bytes) plain.line plain.rest cut (line_feed ∷ []) feed } in
    record { line = text.0; rest = plain.rest; cut = CutsLine-before_feed (b ∷ bytes) plain.line text.0 plain.rest at text.1 })
    (λ (bare : (plain.line ≢ []) × (cut.ending ≡ []) × (plain.rest ≡ [])).
    let same : b ∷ bytes ≡ plain.line = CutsLine-open EndsInFeed (b ∷ bytes) plain.line plain.rest cut bare.1 bare.2 in
    record { line = b ∷ bytes; rest = []; cut = CutsLine-last (b ∷ bytes) (λ e. cc) (subst (HasNo line_feed) (sym same) cut.whole) })
    cut.ended

pub TellsLines-ignore : TellsLines EndsIgnoreLine (λ bytes. lines_of (without_returns bytes))
TellsLines-ignore = record { none = refl; first = ignore_line_cut; shorter = CutsLine-shorter_by; some = has_ignore_line }

-- ---- what a line gives

pub begins_with_comment : (bytes line rest : List ℕ) → CutsLine EndsIgnoreLine bytes line rest → is_comment line ≡ true → BeginsWithLine bytes None rest
begins_with_comment bytes line rest cut comment = record { line = line; cut = cut; gives = comment }

pub begins_with_text : (bytes line rest text : List ℕ) → CutsLine EndsIgnoreLine bytes line rest → is_comment line ≡ false → Trims line text → BeginsWithLine bytes (Some text) rest
begins_with_text bytes line rest text cut other trims = record { line = line; cut = cut; gives = record { no_comment = other; trims = trims } }

-- the lines of the bytes are the first one and those of the rest, by equation
pub BeginsWithLine-lines : (bytes rest : List ℕ) (text : Option (List ℕ)) (first : BeginsWithLine bytes text rest) → lines_of (without_returns bytes) ≡ first.line ∷ lines_of (without_returns rest)
BeginsWithLine-lines bytes rest text first = ignore_line_cut bytes first.line rest first.cut

GivesTrimmed-content : (line : List ℕ) (it : LineContent (Unit {0})) → ignore_content line ≡ Some it → GivesTrimmed line it.text it.value
GivesTrimmed-content line it is =
    let this : LineContent (Unit {0}) = record { text = text_before_spaces line; value = tt } in
    ⊎_elim
    (λ (comment : is_comment line ≡ true). let none : None ≡ Some it = sym (ap (λ b. cond b None (Some this)) comment) ∙ is in absurd (cc))
    (λ (other : is_comment line ≡ false).
    let both : Some this ≡ Some it = sym (ap (λ b. cond b None (Some this)) other) ∙ is in
    let same : this ≡ it = cc in
    let text : text_before_spaces line ≡ it.text = ap (λ (x : LineContent (Unit {0})). x.text) same in
    record { no_comment = other; trims = subst (Trims line) text (Trims-text_before_spaces line) })
    (cases_Bool (is_comment line))

pub Tells-ignore_content : Tells GivesTrimmed ignore_content
Tells-ignore_content = record {
  found = λ line text value h. let it : List ℕ → LineContent (Unit {0}) = λ l. record { text = l; value = tt } in
      ap (λ b. cond b None (Some (it (text_before_spaces line)))) h.no_comment ∙ ap (λ l. Some (it l)) (sym (Trims-only line text h.trims));
  gives = GivesTrimmed-content;
}

-- what a line gives that is a comment, or has this text
pub ignore_content-is : (line : List ℕ) (text : Option (List ℕ)) → MatchOption text (is_comment line ≡ true) (λ t. GivesTrimmed line t tt)
    → ignore_content line ≡ option_map (λ t. record { text = t; value = tt }) text
ignore_content-is line None comment = let it : LineContent (Unit {0}) = record { text = text_before_spaces line; value = tt } in ap (λ b. cond b None (Some it)) comment
ignore_content-is line (Some text) h = Tells-ignore_content.found line text tt h

-- ---- one first line

-- how a line of bytes ends, and what is left then
abbrev EndsBefore : List ℕ → List ℕ → List ℕ → Type 0
EndsBefore line ending rest = EndsIgnoreLine line ending ⊎ ((line ≢ []) × (ending ≡ []) × (rest ≡ []))

no_bytes : (line ending rest : List ℕ) → EndsIgnoreLine line ending → ending ++ rest ≡ [] → ⊥
no_bytes line ending rest ends none = let more = ending_has_bytes line ending ends in omega (arith, length-append ending rest, ap length none)

one_ending : (line e rest f left : List ℕ) → EndsIgnoreLine line e → EndsIgnoreLine line f → e ++ rest ≡ f ++ left → rest ≡ left
one_ending line e rest f left (inl a) (inl b) same = append_cancel_left (carriage_return ∷ line_feed ∷ []) rest left (sym (ap (λ l. l ++ rest) a) ∙ same ∙ ap (λ l. l ++ left) b)
one_ending line e rest f left (inr a) (inr b) same = append_cancel_left (line_feed ∷ []) rest left (sym (ap (λ l. l ++ rest) a.0) ∙ same ∙ ap (λ l. l ++ left) b.0)
one_ending line e rest f left (inl a) (inr b) same =
    let bytes : carriage_return ∷ line_feed ∷ rest ≡ line_feed ∷ left = sym (ap (λ l. l ++ rest) a) ∙ same ∙ ap (λ l. l ++ left) b.0 in
    let first : carriage_return ≡ line_feed = cc in
    absurd (omega (arith, first))
one_ending line e rest f left (inr a) (inl b) same =
    let bytes : line_feed ∷ rest ≡ carriage_return ∷ line_feed ∷ left = sym (ap (λ l. l ++ rest) a.0) ∙ same ∙ ap (λ l. l ++ left) b in
    let first : line_feed ≡ carriage_return = cc in
    absurd (omega (arith, first))

one_rest : (line e rest f left : List ℕ) → EndsBefore line e rest → EndsBefore line f left → e ++ rest ≡ f ++ left → rest ≡ left
one_rest line e rest f left (inl x) (inl y) same = one_ending line e rest f left x y same
one_rest line e rest f left (inl x) (inr y) same = absurd (no_bytes line e rest x (same ∙ ap (λ l. l ++ left) y.1 ∙ y.2))
one_rest line e rest f left (inr x) (inl y) same = absurd (no_bytes line f left y (sym same ∙ ap (λ l. l ++ rest) x.1 ∙ x.2))
one_rest line e rest f left (inr x) (inr y) same = x.2 ∙ sym y.2

one_text : (line : List ℕ) (text other : Option (List ℕ)) → MatchOption text (is_comment line ≡ true) (λ t. GivesTrimmed line t tt) → MatchOption other (is_comment line ≡ true) (λ t. GivesTrimmed line t tt) → text ≡ other
one_text line None None x y = refl
one_text line None (Some other) x y = absurd (false≢true (sym y.no_comment ∙ x))
one_text line (Some text) None x y = absurd (false≢true (sym x.no_comment ∙ y))
one_text line (Some text) (Some other) x y = ap Some (Trims-only line text x.trims ∙ sym (Trims-only line other y.trims))

pub first_line_once : (bytes rest left : List ℕ) (text other : Option (List ℕ)) → BeginsWithLine bytes text rest → BeginsWithLine bytes other left → (text ≡ other) × (rest ≡ left)
first_line_once bytes rest left text other x y =
    let both : x.line ∷ lines_of (without_returns rest) ≡ y.line ∷ lines_of (without_returns left) = sym (ignore_line_cut bytes x.line rest x.cut) ∙ ignore_line_cut bytes y.line left y.cut in
    let line : y.line ≡ x.line = cc in
    let joined : bytes ≡ x.line ++ (y.cut.ending ++ left) = y.cut.joined ∙ ap (λ l. l ++ (y.cut.ending ++ left)) line in
    let behind : x.cut.ending ++ rest ≡ y.cut.ending ++ left = append_cancel_left x.line (x.cut.ending ++ rest) (y.cut.ending ++ left) (sym x.cut.joined ∙ joined) in
    let ended : EndsBefore x.line y.cut.ending left = subst (λ l. EndsBefore l y.cut.ending left) line y.cut.ended in (
      one_text x.line text other x.gives (subst (λ l. MatchOption other (is_comment l ≡ true) (λ t. GivesTrimmed l t tt)) line y.gives),
      one_rest x.line x.cut.ending rest y.cut.ending left x.cut.ended ended behind,
    )

-- ---- how many

length-without_returns-le : (bytes : List ℕ) → length (without_returns bytes) ≤ length bytes
length-without_returns-le [] = omega arith
length-without_returns-le (b ∷ bytes) =
    let less = length-without_returns-le bytes in
    ⊎_elim
    (λ yes. rw yes (omega arith))
    (λ no. rw no (omega arith))
    (cases_Bool (b == carriage_return && begins_with_feed bytes))

pub length-without_mark-le : (bytes : List ℕ) → length (without_mark bytes) ≤ length bytes
length-without_mark-le bytes =
    ⊎_elim
    (λ yes. rw yes (omega (arith, length-drop 3 bytes)))
    (λ no. rw no (le_refl _))
    (cases_Bool (starts_with nat_eq bytes (239 ∷ 187 ∷ 191 ∷ [])))

pub length-ignore_lines-le : (bytes : List ℕ) → length (lines_of (without_returns (without_mark bytes))) ≤ length bytes
length-ignore_lines-le bytes = omega (arith, length-lines_of-le (without_returns (without_mark bytes)), length-without_returns-le (without_mark bytes), length-without_mark-le bytes)
