-- Texts of paths.
use Rattle.std.specs.Prelude.{ℕ, Bool, not, ◌&&◌, ◌==◌, nat_eq, if◌then◌else◌, List, ◌++◌, length, codes}
use Rattle.std.specs.List.{starts_with}

abbrev pub is_absolute : List ℕ → Bool
is_absolute path = starts_with nat_eq path (codes "/")

abbrev pub is_relative : List ℕ → Bool
is_relative path = not (length path == 0) && not (is_absolute path)

-- a path that a folder tells
abbrev pub told_from : List ℕ → List ℕ → List ℕ
told_from folder path = if is_absolute path then path else folder ++ (codes "/" ++ path)
