use Rattle.std.proofs.Common.{◌≡◌, ℕ, List, map, take}
use Rattle.std.specs.Borrow.{Bor}
use Rattle.std.specs.Vec.{vec_items}
use Rattle.tree_commands.proofs.tracked_files.bytes_of.Given as goal

-- the bytes of the paths so far
abbrev pub invariant-paths : goal.invariant-paths
invariant-paths l = map (λ (path : Bor (List ℕ)). path.now) l.bytes.items ≡ map vec_items (take l.path-index l.paths)
