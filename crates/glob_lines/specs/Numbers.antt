-- Lines of numbers.
use Rattle.std.specs.Prelude.{◌≡◌, ◌⊎◌, ℕ, List, [], ◌∷◌, map, decimal}
use Rattle.std.specs.List.{join_with_byte}

-- those of the elements of which P holds, in order
abbrev pub Picks : {X : Type 0} → (X → Type 0) → List X → List X → Type 0
Picks P [] chosen = chosen ≡ []
Picks P (x ∷ xs) chosen = (P x × (more : List _) × (chosen ≡ x ∷ more) × Picks P xs more) ⊎ (¬ P x × Picks P xs chosen)

-- the numbers in decimal digits, one space between
abbrev pub text_of_numbers : List ℕ → List ℕ
text_of_numbers numbers = join_with_byte 32 (map decimal numbers)
