-- What the ends of the texts show. Where the pattern's last byte ends no star token, question mark or set, each value that is
-- split ends in it. A star alone that crosses slashes splits each value.
use Rattle.std.proofs.Common.{◌≡◌, ◌≢◌, ◌⊎◌, inl, inr, ℕ, zero, suc, ◌+◌, ◌-◌, ◌<◌, ◌≤◌, false, List, [], ◌∷◌, length, get_or, refl, sym, ◌∙◌, ap, subst, arith}
use Rattle.std.proofs.lemmas.Bool.{cases_lt}
use Rattle.glob_matcher.specs.declared.wildmatch.way.Way.{Way}
use Rattle.glob_matcher.specs.Bytes.{HasByte, is_path, slash, star}
use Rattle.glob_matcher.specs.Private.Spelling.{close_bracket, question_mark}
use Rattle.glob_matcher.specs.Tokens.{Token, Byte, Any, OneOf, Free, Local, Dirs, Nothing, TokenAt, From, IsRun}
use Rattle.glob_matcher.specs.Matching.{SplitsBy, SplitsFrom, Fits}
use Rattle.glob_matcher.proofs.lemmas.cutting.CutLemmas.{token_out, one_out, end_in, end_out, free_in, nothing_out}
use Rattle.glob_matcher.proofs.lemmas.reading.Existence.{items_close, From-short, TokenAt-past}

-- a byte that ends no star token, question mark or set
abbrev pub IsAlone : ℕ → Type 0
IsAlone b = (b ≢ star) × (b ≢ question_mark) × (b ≢ close_bracket) × (b ≢ slash)

abbrev pub last : List ℕ → ℕ
last p = get_or p (length p - 1) 0

last_is : (p : List ℕ) (i b : ℕ) → i ≡ length p - 1 → HasByte p i b → last p ≡ b
last_is p i b place h = sym (ap (λ (n : ℕ). get_or p n 0) place) ∙ h.is

run_last : (p : List ℕ) (i j : ℕ) → IsRun p i j → j ≡ length p → last p ≡ star
run_last p i j run end =
    let some : i < j = run.some in last_is p (j - 1) star (omega arith) (run.stars (j - 1) (omega arith) (omega arith))

-- the token that ends the pattern
last_token : (way : Way) (p : List ℕ) (i : ℕ) (t : Token) (j : ℕ) → TokenAt way p i t j → j ≡ length p → IsAlone (last p)
    → (t ≡ Byte (last p)) ⊎ (t ≡ Nothing)
last_token way p i (Byte b) j (inl e) end alone = inl (ap Byte (sym (last_is p (i + 1) b (omega (arith, e.1)) e.0.byte)))
last_token way p i (Byte b) j (inr e) end alone = inl (ap Byte (sym (last_is p i b (omega (arith, e.2)) e.0)))
last_token way p i Any j e end alone = absurd (alone.1 (last_is p i question_mark (omega (arith, e.1)) e.0))
last_token way p i (OneOf s) j e end alone =
    absurd (alone.2 (last_is p e.close close_bracket (omega (arith, e.after)) (items_close p _ _ _ _ _ e.items)))
last_token way p i Free j e end alone = absurd (alone.0 (run_last p i j e.0 end))
last_token way p i Local j e end alone = absurd (alone.0 (run_last p i j e.0 end))
last_token way p i Dirs j e end alone = absurd (alone.3 (last_is p e.run_end slash (omega (arith, e.after)) e.slash))
last_token way p i Nothing j e end alone = inr refl

-- the value ends in the pattern's last byte
abbrev pub EndsInLast : Way → List ℕ → List ℕ → Type 0
EndsInLast way p v = (0 < length v) × Fits way (Byte (last p)) (get_or v (length v - 1) 0)

module _ (way : Way) (p v : List ℕ) (alone : IsAlone (last p)) where
  ends_here : (i k : ℕ) (t : Token) (j : ℕ) → TokenAt way p i t j → j ≡ length p → k ≤ length v
      → SplitsFrom v k p i way → EndsInLast way p v
  ends_here i k t j here end inside all = elim (last_token way p i t j here end alone) [
    | inl is ↦
        let byte : TokenAt way p i (Byte (last p)) j = subst (λ (x : Token). TokenAt way p i x j) is here in
        let one = one_out way p v i j k (Byte (last p)) tt byte all in
        let past : length v ≤ k + 1 = end_out way p v j (k + 1) end one.2 in
        let place : k ≡ length v - 1 = omega (arith, one.0) in
        (omega (arith, one.0), subst (λ (n : ℕ). Fits way (Byte (last p)) (get_or v n 0)) place one.1)
    | inr is ↦ absurd (nothing_out way p v i j k (subst (λ (x : Token). TokenAt way p i x j) is here) inside all)
  ]

  ends_later : (i k : ℕ) (ts : List Token) → From way p i ts → i < length p → k ≤ length v
      → ((j e : ℕ) → i < j → j < length p → e ≤ length v → SplitsFrom v e p j way → EndsInLast way p v)
      → SplitsFrom v k p i way → EndsInLast way p v
  ends_later i k [] read low inside later all = absurd (omega (arith, read))
  ends_later i k (t ∷ ts) read low inside later all =
      let out = token_out way p v i read.0 k t read.1 inside all in
      let past : i < read.0 = TokenAt-past way p i t read.0 read.1 in
      let short : read.0 + length ts ≤ length p = From-short way p read.0 ts read.2 in
      elim (cases_lt read.0 (length p)) [
        | inl more ↦ later read.0 out.0 past more out.2.high out.4
        | inr end ↦ ends_here i k t read.0 read.1 (omega arith) inside all
      ]

  ends_from : (d i k : ℕ) → length p ≤ i + d → i < length p → k ≤ length v → SplitsFrom v k p i way → EndsInLast way p v
  ends_from zero i k enough low inside all = absurd (omega arith)
  ends_from (suc d) i k enough low inside all =
      ends_later i k all.tokens all.read low inside
      (λ j e past more in_value rest. ends_from d j e (omega arith) more in_value rest) all

-- A value that is split ends in the pattern's last byte.
pub ends_in_last : (way : Way) (p v : List ℕ) → 0 < length p → IsAlone (last p) → SplitsBy v p way → EndsInLast way p v
ends_in_last way p v some alone all = ends_from way p v alone (length p) 0 0 (omega arith) some (omega arith) all

-- A star alone takes the whole value in plain mode.
pub lone_star : (way : Way) (p v : List ℕ) → is_path way ≡ false → length p ≡ 1 → HasByte p 0 star → SplitsBy v p way
lone_star way p v plain one here =
    let run : IsRun p 0 1 = record {
      some = omega arith;
      stars = λ k low high. subst (λ (n : ℕ). HasByte p n star) (omega arith) here;
      whole = λ more. let inside = more.inside in absurd (omega arith);
    } in
    free_in way p v 0 1 0 (length v) (run, λ path. cc) (omega arith) (omega arith)
    (end_in way p v 1 (length v) (omega arith) (omega arith))
