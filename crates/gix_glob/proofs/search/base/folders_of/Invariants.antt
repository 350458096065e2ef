use Rattle.std.proofs.Common.{◌≡◌, ◌∷◌, ◌++◌, length}
use Rattle.std.specs.List.{flat_map}
use Rattle.gix_glob.specs.Paths.{folder}
use Rattle.gix_glob.specs.Private.Bases.{without_last}
use Rattle.gix_glob.specs.Private.PartsLeft.{parts_left}
use Rattle.gix_glob.proofs.search.base.folders_of.Given as goal

-- the folders so far, and those that are left, are those of all parts
abbrev pub invariant-folders : goal.invariant-folders
invariant-folders l = l.base.items ++ flat_map folder (without_last (l.part ∷ parts_left l.parts)) ≡ flat_map folder (without_last (parts_left l.fn.parts))

abbrev pub decreases-folders : goal.decreases-folders
decreases-folders l = length (parts_left l.parts)
