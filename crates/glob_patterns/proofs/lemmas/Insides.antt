-- A literal between two stars: what it splits has it inside.
use Rattle.std.proofs.Common.{◌≡◌, ◌↔◌, ◌⊎◌, inl, inr, ⊎_elim, ℕ, ◌+◌, ◌-◌, ◌≤◌, Bool, true, false, not, ◌||◌, IsTrue, List, length, get_or, refl, sym, ◌∙◌, ap, arith}
use Rattle.std.proofs.lemmas.Bool.{false≢true, not-true, or_cases}
use Rattle.glob_matcher.specs.declared.wildmatch.way.Way.{Way}
use Rattle.glob_matcher.specs.Bytes.{fold, has_slash, is_path, is_special}
use Rattle.glob_matcher.specs.Tokens.{IsRun}
use Rattle.glob_matcher.specs.Matching.{SplitsBy, SplitsFrom}
use Rattle.glob_matcher.proofs.lemmas.cutting.CutLemmas.{end_in}
use Rattle.glob_patterns.specs.Private.Insides.{HasInside, IsBetweenStars}
use Rattle.glob_patterns.proofs.lemmas.LiteralLemmas.{IsLiteral, literal_in, literal_out}
use Rattle.glob_patterns.proofs.lemmas.LoneStars.{lone_star_is_run, lone_star_in, lone_star_out}

module _ (way : Way) (p v : List ℕ) (shape : IsBetweenStars p) where
  first_is_run : IsRun p 0 1
  first_is_run =
      let some : 3 ≤ length p = shape.some in
      lone_star_is_run p 0 1 refl (record { inside = omega arith; is = shape.first })
      (λ next. false≢true (sym (shape.literal 1 (omega arith) (omega arith)) ∙ ap is_special next.is))

  last_is_run : IsRun p (length p - 1) (length p)
  last_is_run =
      let some : 3 ≤ length p = shape.some in
      lone_star_is_run p (length p - 1) (length p) (omega arith) (record { inside = omega arith; is = shape.last })
      (λ past. let inside = past.inside in absurd (omega arith))

  is_literal : IsLiteral p 1 (length p - 1)
  is_literal = record { at = shape.literal }

  inside_in : (is_path way ≡ false) ⊎ (has_slash v ≡ false) → HasInside way v p → SplitsBy v p way
  inside_in open_or_bare found =
      let some : 3 ≤ length p = shape.some in
      let fits : found.place + (length p - 2) ≤ length v = found.fits in
      let last : SplitsFrom v (found.place + (length p - 2)) p (length p - 1) way =
      lone_star_in way p (length p - 1) (length p) (omega arith) last_is_run v (found.place + (length p - 2)) (length v) fits (omega arith) open_or_bare
      (end_in way p v (length p) (length v) refl (omega arith)) in
      let literal : SplitsFrom v found.place p 1 way =
      literal_in way p v (length p - 2) found.place (found.place + (length p - 2)) 1 (length p - 1) refl (omega arith) (omega arith) fits is_literal
      (record {
        at = λ x y low high same.
            let there : 1 + (y - 1) ≡ y = omega arith in
            let here : found.place + (y - 1) ≡ x = omega arith in
            ap (λ (m : ℕ). fold way (get_or v m 0)) (sym here)
            ∙ (sym (found.agree.each (y - 1) (omega arith)) ∙ ap (λ (m : ℕ). fold way (get_or p m 0)) there);
      })
      last in
      lone_star_in way p 0 1 refl first_is_run v 0 found.place (omega arith) (omega arith) open_or_bare literal

  inside_out : SplitsBy v p way → HasInside way v p
  inside_out s =
      let some : 3 ≤ length p = shape.some in
      let out = lone_star_out way p 0 1 refl first_is_run v 0 (omega arith) s in
      let literal = literal_out way p v (length p - 2) out.0 (out.0 + (length p - 2)) 1 (length p - 1) refl (omega arith) (omega arith) out.2 is_literal out.3 in record {
        place = out.0;
        fits = literal.0;
        agree = record { each = λ m below. sym (literal.1.at (out.0 + m) (1 + m) (omega arith) (omega arith) (omega arith)) };
      }

-- a literal between two stars is looked for in the value, where the stars may take all bytes of the value
pub inside_exact : (answer : Bool) (p v : List ℕ) (way : Way) → IsBetweenStars p → (not (is_path way) || not (has_slash v)) ≡ true
    → IsTrue answer ↔ HasInside way v p → IsTrue answer ↔ SplitsBy v p way
inside_exact answer p v way shape free exact =
    let one_component : (is_path way ≡ false) ⊎ (has_slash v ≡ false) =
    ⊎_elim (λ h. inl (not-true _ h)) (λ h. inr (not-true _ h)) (or_cases _ _ free) in (
      λ yes. inside_in way p v shape one_component (exact.0 yes),
      λ s. exact.1 (inside_out way p v shape s),
    )
