-- Which bits stand in a sum of the named ones.
use Rattle.std.proofs.Common.{◌≡◌, ℕ, ◌+◌, Bool, true, false, not, ◌&&◌, refl, ap, ◌∙◌, if◌then◌else◌}
use Rattle.std.specs.Prelude.{◌==◌, bit_and}
use Rattle.std.proofs.lemmas.Bool.{and_parts}
use Rattle.glob_patterns.specs.declared.mode.Mode.{Mode}
use Rattle.glob_patterns.specs.Patterns.{is_by_its_end, is_for_directories, is_negative, is_absolute}

-- the bits that `bits_of` adds up, by five answers
abbrev pub sum_of_bits : Bool → Bool → Bool → Bool → Bool → ℕ
sum_of_bits slashed by_its_end for_directories negative absolute =
    (if slashed then 0 else 1)
    + (if by_its_end then 2 else 0)
    + (if for_directories then 4 else 0)
    + (if negative then 8 else 0)
    + (if absolute then 16 else 0)

-- two answers are the same
abbrev same : Bool → Bool → Bool
same true b = b
same false b = not b

same-true : (a b : Bool) → same a b ≡ true → a ≡ b
same-true true true h = refl
same-true true false h = cc
same-true false true h = cc
same-true false false h = refl

-- a test passes at both answers
abbrev both : (Bool → Bool) → Bool
both test = test true && test false

at_both : (test : Bool → Bool) → both test ≡ true → (b : Bool) → test b ≡ true
at_both test h true = (and_parts (test true) (test false) h).0
at_both test h false = (and_parts (test true) (test false) h).1

-- a test of five answers passes at all of them
abbrev at_each : (Bool → Bool → Bool → Bool → Bool → Bool) → Bool
at_each test = both (λ a. both (λ b. both (λ c. both (λ d. both (λ e. test a b c d e)))))

at_five : (test : Bool → Bool → Bool → Bool → Bool → Bool) → at_each test ≡ true → (a b c d e : Bool) → test a b c d e ≡ true
at_five test h a b c d e =
    at_both (λ e. test a b c d e)
    (at_both (λ d. both (λ e. test a b c d e))
    (at_both (λ c. both (λ d. both (λ e. test a b c d e)))
    (at_both (λ b. both (λ c. both (λ d. both (λ e. test a b c d e))))
    (at_both (λ a. both (λ b. both (λ c. both (λ d. both (λ e. test a b c d e))))) h a) b) c) d) e

module _ (mode : Mode) (a b c d e : Bool) (sum : mode.0 ≡ sum_of_bits a b c d e) where
  pub is_by_its_end-sum : is_by_its_end mode ≡ b
  is_by_its_end-sum = ap (λ (n : ℕ). bit_and n 2 == 2) sum
      ∙ same-true _ _ (at_five (λ a b c d e. same (bit_and (sum_of_bits a b c d e) 2 == 2) b) refl a b c d e)

  pub is_for_directories-sum : is_for_directories mode ≡ c
  is_for_directories-sum = ap (λ (n : ℕ). bit_and n 4 == 4) sum
      ∙ same-true _ _ (at_five (λ a b c d e. same (bit_and (sum_of_bits a b c d e) 4 == 4) c) refl a b c d e)

  pub is_negative-sum : is_negative mode ≡ d
  is_negative-sum = ap (λ (n : ℕ). bit_and n 8 == 8) sum
      ∙ same-true _ _ (at_five (λ a b c d e. same (bit_and (sum_of_bits a b c d e) 8 == 8) d) refl a b c d e)

  pub is_absolute-sum : is_absolute mode ≡ e
  is_absolute-sum = ap (λ (n : ℕ). bit_and n 16 == 16) sum
      ∙ same-true _ _ (at_five (λ a b c d e. same (bit_and (sum_of_bits a b c d e) 16 == 16) e) refl a b c d e)
