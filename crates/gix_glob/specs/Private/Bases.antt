-- The base of a source, computed.
use Rattle.std.specs.Prelude.{ℕ, List, [], ◌∷◌, Option, None, Some}
use Rattle.std.specs.List.{flat_map}
use Rattle.gix_glob.specs.Paths.{folder}

-- all but the last
abbrev pub without_last : List (List ℕ) → List (List ℕ)
without_last [] = []
without_last (part ∷ []) = []
without_last (part ∷ next ∷ more) = part ∷ without_last (next ∷ more)

-- the base by the parts of a source below its root: the folders, where there are some
abbrev pub base_below : List (List ℕ) → Option (List ℕ)
base_below [] = None
base_below (file ∷ []) = None
base_below (part ∷ next ∷ more) = Some (flat_map folder (without_last (part ∷ next ∷ more)))
