-- The literal bytes of a pattern: each value that is split has them.
use Rattle.std.proofs.Common.{◌≡◌, inl, inr, ⊎_elim, ℕ, zero, suc, ◌+◌, ◌<◌, ◌≤◌, true, false, List, [], ◌∷◌, length, get_or, refl, sym, ◌∙◌, ap, subst, arith}
use Rattle.std.proofs.lemmas.Bool.{cases_eq, cases_lt, false≢true, or_parts}
use Rattle.std.specs.Str.{byte}
use Rattle.glob_matcher.specs.declared.wildmatch.way.Way.{Way}
use Rattle.glob_matcher.specs.Bytes.{HasByte, fold, is_special, slash, star}
use Rattle.glob_patterns.specs.Laws.LiteralBytes.{HasAlike, HasAlikePair, IsUnescapedUpTo, is_joining}
use Rattle.glob_matcher.specs.Tokens.{Token, Byte, Any, OneOf, Free, Local, Dirs, Nothing, TokenAt, From}
use Rattle.glob_matcher.specs.Matching.{SplitsBy, SplitsFrom}
use Rattle.glob_matcher.proofs.lemmas.cutting.CutLemmas.{token_out}
use Rattle.glob_matcher.proofs.lemmas.reading.Existence.{TokenAt-past}
use Rattle.glob_patterns.proofs.lemmas.LiteralLemmas.{literal_out}

-- from some place on the value is split by the tokens from place i of the pattern on
record IsReached (way : Way) (v p : List ℕ) (i : ℕ) : Type 0 where
  place : ℕ
  inside : place ≤ length v
  split : SplitsFrom v place p i way

module _ (way : Way) (p v : List ℕ) (i b : ℕ) (clean : IsUnescapedUpTo p i) (h : HasByte p i b) (plain : is_joining b ≡ false) where
  not_joining : (c : ℕ) → HasByte p i c → is_joining c ≡ true → ⊥
  not_joining c other joins = false≢true (sym plain ∙ (ap is_joining (sym h.is ∙ other.is) ∙ joins))

  at_place : (c m : ℕ) → m ≡ i → HasByte p m c → HasByte p i c
  at_place c m same other = subst (λ (n : ℕ). HasByte p n c) same other

  -- the token that holds the byte is the byte
  covers : (j e k : ℕ) (t : Token) → j ≤ i → i < e → k ≤ length v → TokenAt way p j t e → SplitsFrom v k p j way → IsReached way v p i
  covers j e k (Byte c) low past inside (inl x) all = absurd (clean.no_escape j low x.0.escape)
  covers j e k (Byte c) low past inside (inr x) all =
      let same : j ≡ i = omega (arith, x.2) in
      record { place = k; inside = inside; split = subst (λ (m : ℕ). SplitsFrom v k p m way) same all }
  covers j e k Any low past inside x all = absurd (not_joining (byte "?") (at_place (byte "?") j (omega (arith, x.1)) x.0) refl)
  covers j e k (OneOf s) low past inside x all = absurd (clean.no_set j low x.bracket)
  covers j e k Free low past inside x all = absurd (not_joining star (x.0.stars i low past) refl)
  covers j e k Local low past inside x all = absurd (not_joining star (x.0.stars i low past) refl)
  covers j e k Dirs low past inside x all = ⊎_elim
      (λ (before : i < x.run_end). absurd (not_joining star (x.run.stars i low before) refl))
      (λ (after : x.run_end ≤ i). absurd (not_joining slash (at_place slash x.run_end (omega (arith, x.after)) x.slash) refl))
      (cases_lt i x.run_end)
  covers j e k Nothing low past inside (inl x, end) all = absurd (clean.no_escape j low x.0)
  covers j e k Nothing low past inside (inr x, end) all = absurd (clean.no_set j low x.0)

  Onward : ℕ → Type 0
  Onward j = (e k : ℕ) → j < e → e ≤ i → k ≤ length v → SplitsFrom v k p e way → IsReached way v p i

  from_token : (j k : ℕ) (ts : List Token) → From way p j ts → j ≤ i → k ≤ length v → Onward j → SplitsFrom v k p j way → IsReached way v p i
  unfolding Onward
  from_token j k [] read low inside later all = let within = h.inside in absurd (omega (arith, read))
  from_token j k (t ∷ ts) read low inside later all =
      let out = token_out way p v j read.0 k t read.1 inside all in
      let past : j < read.0 = TokenAt-past way p j t read.0 read.1 in
      elim (cases_lt i read.0) [
        | inl covered ↦ covers j read.0 k t low covered inside read.1 all
        | inr before ↦ later read.0 out.0 past before out.2.high out.4
      ]

  to_byte : (d j k : ℕ) → i ≤ j + d → j ≤ i → k ≤ length v → SplitsFrom v k p j way → IsReached way v p i
  unfolding Onward
  to_byte zero j k enough low inside all = from_token j k all.tokens all.read low inside (λ e m past within. absurd (omega arith)) all
  to_byte (suc d) j k enough low inside all =
      from_token j k all.tokens all.read low inside (λ e m past within in_value rest. to_byte d e m (omega arith) within in_value rest) all

not_special : (p : List ℕ) (i b : ℕ) → HasByte p i b → is_joining b ≡ false → is_special (get_or p i 0) ≡ false
not_special p i b h plain = (or_parts _ _ (ap is_joining h.is ∙ plain)).0

-- A value that is split has each literal byte of the text, up to case where the mode folds.
pub literal_bytes : (p v : List ℕ) (way : Way) (i b : ℕ) → IsUnescapedUpTo p i → HasByte p i b → is_joining b ≡ false → SplitsBy v p way → HasAlike way v b
literal_bytes p v way i b clean h plain s =
    let from = to_byte way p v i b clean h plain i 0 0 (omega arith) (omega arith) (omega arith) s in
    let in_text = h.inside in
    let single : (y : ℕ) → i ≤ y → y < i + 1 → is_special (get_or p y 0) ≡ false =
    λ y low high. (let here : i ≡ y = omega arith in subst (λ (m : ℕ). is_special (get_or p m 0) ≡ false) here (not_special p i b h plain)) in
    let out = literal_out way p v 1 from.place (from.place + 1) i (i + 1) refl refl (omega arith) from.inside (record { at = single }) from.split in
    let reach = out.0 in
    record { place = from.place; inside = omega arith; alike = out.1.at from.place i (omega arith) (omega arith) (omega arith) ∙ ap (fold way) h.is }

-- It has each two literal bytes of the text that stand side by side so, too.
pub literal_pairs : (p v : List ℕ) (way : Way) (i a b : ℕ) → IsUnescapedUpTo p (i + 1) → HasByte p i a → HasByte p (i + 1) b
    → is_joining a ≡ false → is_joining b ≡ false → SplitsBy v p way → HasAlikePair way v a b
literal_pairs p v way i a b clean here next plain plain' s =
    let before : IsUnescapedUpTo p i = record { no_set = λ j below. clean.no_set j (omega arith); no_escape = λ j below. clean.no_escape j (omega arith) } in
    let from = to_byte way p v i a before here plain i 0 0 (omega arith) (omega arith) (omega arith) s in
    let in_text = next.inside in
    let each : (y : ℕ) → i ≤ y → y < i + 2 → is_special (get_or p y 0) ≡ false =
    λ y low high. ⊎_elim
    (λ (first : y ≡ i). subst (λ (m : ℕ). is_special (get_or p m 0) ≡ false) (sym first) (not_special p i a here plain))
    (λ (other : y ≡ i → ⊥). (let second : i + 1 ≡ y = omega arith in subst (λ (m : ℕ). is_special (get_or p m 0) ≡ false) second (not_special p (i + 1) b next plain')))
    (cases_eq y i) in
    let out = literal_out way p v 2 from.place (from.place + 2) i (i + 2) refl refl (omega arith) from.inside (record { at = each }) from.split in
    let reach = out.0 in record {
      place = from.place;
      inside = omega arith;
      alike = out.1.at from.place i (omega arith) (omega arith) (omega arith) ∙ ap (fold way) here.is;
      next_alike = out.1.at (from.place + 1) (i + 1) (omega arith) (omega arith) (omega arith) ∙ ap (fold way) next.is;
    }
