-- Which files belong to the user.
use Rattle.std.specs.Prelude.{◌≡◌, ◌⊎◌, ℕ, Some}
use Rattle.system_files.specs.declared.user.User.{User}

-- one with the user's number; to the superuser belongs also what belongs to the user for whom he asks
abbrev pub Owns : User → ℕ → Type 0
Owns user owner = (user.number ≡ Some owner) ⊎ ((user.number ≡ Some 0) × (user.asks_for ≡ Some owner))
