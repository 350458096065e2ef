use Rattle.std.proofs.Common.{length}
use Rattle.tree_files.specs.Closed.{HasShut}
use Rattle.tree_files.proofs.closed_folders.ClosedFolders.has_shut.Given as goal

-- what is shut on the way to the folder is so on the way to the front, as none between is
abbrev pub invariant-fronts : goal.invariant-fronts
invariant-fronts l = (HasShut l.self l.front → HasShut l.self l.folder) × (HasShut l.self l.folder → HasShut l.self l.front)

abbrev pub decreases-fronts : goal.decreases-fronts
decreases-fronts l = length l.front
