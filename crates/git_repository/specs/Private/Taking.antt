-- Which repository that was found may be taken.
use Rattle.std.specs.Prelude.{◌⊎◌, ℕ, Bool, true, IsTrue, List}
use Rattle.git_repository.specs.Safety.{trusts}

-- its top and its git folder belong to the user who asks, as the source says; or the top is named as safe
abbrev pub MayBeTaken : (List ℕ → Bool → Type 0) → List (List ℕ) → List ℕ → List ℕ → Type 0
MayBeTaken owned directories top git = (owned top true × owned git true) ⊎ IsTrue (trusts top directories)
