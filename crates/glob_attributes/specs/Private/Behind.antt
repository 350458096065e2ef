-- Texts from their end.
use Rattle.std.specs.Prelude.{◌≡◌, ◌⊎◌, ℕ, ◌≤◌, Bool, true, false, List, [], ◌∷◌, ◌++◌, drop, length, take}
use Rattle.std.specs.List.{AllByRecursion}
use Rattle.glob_attributes.specs.Words.{is_blank}

-- the text is empty, or its last byte is one, of which it is said whether it is a blank
abbrev pub EndsIn : Bool → List ℕ → Type 0
EndsIn blank text = (text ≡ []) ⊎ ((front : List ℕ) × (b : ℕ) × (text ≡ front ++ b ∷ []) × (is_blank b ≡ blank))

-- the place where the last word of a text begins, which ends with it
pub record IsLastStart (text : List ℕ) (place : ℕ) : Type 0 where
  pub inside : place ≤ length text
  pub begun : EndsIn true (take place text)
  pub whole : AllByRecursion (λ b. is_blank b ≡ false) (drop place text)
