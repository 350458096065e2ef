use Rattle.std.proofs.Common.{◌≡◌, ℕ, List, map, take}
use Rattle.std.specs.Borrow.{Bor}
use Rattle.std.specs.Vec.{vec_items}
use Rattle.git_paths.specs.Standpoints.{shown}
use Rattle.tree_commands.proofs.tracked_files.seen_paths.Given as goal

-- the paths so far, as they are seen
abbrev pub invariant-paths : goal.invariant-paths
invariant-paths l = map vec_items l.all.items ≡ map (λ (path : Bor (List ℕ)). shown l.standpoint path.now) (take l.path-index l.paths)
