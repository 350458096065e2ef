-- Lists that speak of each path.
use Rattle.std.specs.Prelude.{◌≡◌, ℕ, List, [], Option, None, Some}

-- the base is missing or empty, so that it leaves all of each path
abbrev pub IsOfAll : Option (List ℕ) → Type 0
IsOfAll None = Unit {0}
IsOfAll (Some base) = base ≡ []
