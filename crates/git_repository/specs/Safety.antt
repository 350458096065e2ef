-- Whose repository may be taken.
use Rattle.std.specs.Prelude.{ℕ, Bool, false, not, ◌&&◌, ◌||◌, ◌==◌, List, [], ◌∷◌, length, codes}
use Rattle.std.specs.List.{list_all}
use Rattle.std.specs.Str.{bytes_eq}

-- a value names a path: it is this path, or `*`
abbrev pub names : List ℕ → List ℕ → Bool
names path value = not (length value == 0) && (bytes_eq value (codes "*") || bytes_eq value path)

-- one of the values names the path, and no empty value follows it
abbrev pub trusts : List ℕ → List (List ℕ) → Bool
trusts path [] = false
trusts path (value ∷ values) = trusts path values || (names path value && list_all (λ other. not (length other == 0)) values)
