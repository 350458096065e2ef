-- What may be answered without the matcher.
use Rattle.std.proofs.Common.{◌≡◌, ◌↔◌, ◌⊎◌, inl, inr, ⊎_elim, ℕ, Bool, true, false, not, ◌||◌, IsTrue, List, length, take, drop, None, Some, sym, ◌∙◌, subst, arith}
use Rattle.std.proofs.lemmas.List.{length-take-le}
use Rattle.std.proofs.lemmas.Bool.{false≢true, not-true, or_cases}
use Rattle.glob_matcher.specs.declared.wildmatch.way.Way.{Way}
use Rattle.glob_matcher.specs.Bytes.{has_slash, is_path}
use Rattle.glob_patterns.specs.Laws.LiteralBytes.{AreAlike, EndsAlike}
use Rattle.glob_patterns.specs.Private.Fronts.{BeginsAlike}
use Rattle.glob_matcher.specs.Matching.{SplitsBy}
use Rattle.glob_patterns.specs.Patterns.{first_special, is_star_and_literal}
use Rattle.glob_patterns.proofs.lemmas.LiteralLemmas.{literal_splits, literal_front, literal_from_place, literal_up_to_place, star_literal_out, star_literal_in}

-- a text without special bytes is compared whole
pub whole_exact : (answer : Bool) (p v : List ℕ) (way : Way) → first_special p ≡ None → IsTrue answer ↔ AreAlike way p v → IsTrue answer ↔ SplitsBy v p way
whole_exact answer p v way none exact =
    let splits = literal_splits p v way (literal_from_place p none) in
    (λ yes. splits.1 (sym (exact.0 yes)), λ s. exact.1 (sym (splits.0 s)))

-- a value that doesn't end in the literal after a star doesn't match
pub end_refused : (answer : Bool) (p v : List ℕ) (way : Way) → is_star_and_literal p ≡ true → answer ≡ false
    → IsTrue answer ↔ EndsAlike way v (drop 1 p) → IsTrue false ↔ SplitsBy v p way
end_refused answer p v way shape refused exact = (
  λ yes. absurd (false≢true yes),
  λ s. (let out = star_literal_out p v way shape s in sym refused ∙ exact.1 (record { fits = out.0; alike = out.1 })),
)

-- a star and a literal are compared with the value's end, where the star may take all bytes of the value
pub end_exact : (answer : Bool) (p v : List ℕ) (way : Way) → is_star_and_literal p ≡ true → (not (is_path way) || not (has_slash v)) ≡ true
    → IsTrue answer ↔ EndsAlike way v (drop 1 p) → IsTrue answer ↔ SplitsBy v p way
end_exact answer p v way shape free exact =
    let one_component : (is_path way ≡ false) ⊎ (has_slash v ≡ false) =
    ⊎_elim (λ h. inl (not-true _ h)) (λ h. inr (not-true _ h)) (or_cases _ _ free) in (
      λ yes. (let ends = exact.0 yes in star_literal_in p v way shape one_component ends.fits ends.alike),
      λ s. (let out = star_literal_out p v way shape s in exact.1 (record { fits = out.0; alike = out.1 })),
    )

-- a value that doesn't begin with the literal front doesn't match
pub front_refused : (answer : Bool) (p v : List ℕ) (way : Way) (n : ℕ) → first_special p ≡ Some n → answer ≡ false
    → IsTrue answer ↔ BeginsAlike way v (take n p) → IsTrue false ↔ SplitsBy v p way
front_refused answer p v way n first refused exact =
    let plain = literal_up_to_place p n first in
    let long : length (take n p) ≡ n = length-take-le n p plain.0 in (
      λ yes. absurd (false≢true yes),
      λ s. (let out = literal_front p v way n plain.0 plain.1 s in
          sym refused ∙ exact.1 (record { fits = omega (arith, out.0); alike = subst (λ (m : ℕ). AreAlike way (take n p) (take m v)) (sym long) out.1 })),
    )
