-- A star with no star beside it takes any bytes of a value in plain mode, and in path mode those without slash.
use Rattle.std.proofs.Common.{◌≡◌, ◌⊎◌, ⊎_elim, ℕ, ◌+◌, ◌≤◌, true, false, ◌==◌, List, length, sym, ◌∙◌, subst, arith}
use Rattle.std.proofs.lemmas.Bool.{eq-eqb, cases_Bool, false≢true}
use Rattle.std.proofs.lemmas.List.Folds.{list_any_at}
use Rattle.glob_matcher.specs.declared.wildmatch.way.Way.{Way}
use Rattle.glob_matcher.specs.Bytes.{HasByte, NoSlash, has_slash, is_path, slash, star}
use Rattle.glob_matcher.specs.Tokens.{Free, Local, TokenAt, IsRun}
use Rattle.glob_matcher.specs.Matching.{SplitsFrom}
use Rattle.glob_matcher.proofs.lemmas.cutting.CutLemmas.{free_in, free_out, local_in, local_out}

-- where the test finds no slash, no place has one
no_slash : (v : List ℕ) → has_slash v ≡ false → NoSlash v 0 (length v)
no_slash v none = record { at = λ m low inside is. false≢true (sym none ∙ list_any_at (λ b. b == slash) v m 0 inside (eq-eqb _ _ is)) }

pub lone_star_is_run : (p : List ℕ) (i j : ℕ) → j ≡ i + 1 → HasByte p i star → ¬ HasByte p j star → IsRun p i j
lone_star_is_run p i j next here none = record {
  some = omega arith;
  stars = λ m low high. let same : i ≡ m = omega arith in subst (λ (n : ℕ). HasByte p n star) same here;
  whole = none;
}

module _ (way : Way) (p : List ℕ) (i j : ℕ) (next : j ≡ i + 1) (run : IsRun p i j) where
  is_free : is_path way ≡ false → TokenAt way p i Free j
  is_free plain = (run, λ path. absurd (false≢true (sym plain ∙ path)))

  is_local : is_path way ≡ true → TokenAt way p i Local j
  is_local path = (run, path, λ b. let many = b.many in absurd (omega arith))

  -- what follows a star splits the value from some later place on
  pub lone_star_out : (v : List ℕ) (k : ℕ) → k ≤ length v → SplitsFrom v k p i way → (e : ℕ) × (k ≤ e) × (e ≤ length v) × SplitsFrom v e p j way
  lone_star_out v k inside all = ⊎_elim
      (λ path. (let out = local_out way p v i j k (is_local path) inside all in (out.0, out.1, out.2, out.4)))
      (λ plain. free_out way p v i j k (is_free plain) inside all)
      (cases_Bool (is_path way))

  -- a star takes the bytes between two places, where the mode is plain or the value has no slash
  pub lone_star_in : (v : List ℕ) (k e : ℕ) → k ≤ e → e ≤ length v → (is_path way ≡ false) ⊎ (has_slash v ≡ false)
      → SplitsFrom v e p j way → SplitsFrom v k p i way
  lone_star_in v k e low high open_or_bare later =
      let bare : is_path way ≡ true → NoSlash v 0 (length v) =
      λ path. ⊎_elim (λ (plain : is_path way ≡ false). absurd (false≢true (sym plain ∙ path))) (no_slash v) open_or_bare in
      ⊎_elim
      (λ path. local_in way p v i j k e (is_local path) low high (record { at = λ m from below. (bare path).at m (omega arith) (omega arith) }) later)
      (λ plain. free_in way p v i j k e (is_free plain) low high later)
      (cases_Bool (is_path way))
