-- Numbers that C is told.
use Rattle.std.proofs.Common.{◌≡◌, ℕ, ◌<◌, Some, inl, inr, refl, arith}
use Rattle.std.proofs.lemmas.Bool.Decides.{eqb_tells}
use Rattle.gix_glob_c.specs.Parts.{none, unless_none}

-- a number below `GIX_GLOB_NONE` stands for itself
pub unless_none-below : (n : ℕ) → n < none → unless_none n ≡ Some n
unless_none-below n below = elim (eqb_tells n none) [
  | inl same ↦ absurd (omega (arith, same.1))
  | inr other ↦ rw other.0 refl
]
