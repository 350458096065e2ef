use Rattle.std.proofs.Common.{map, vec_len}
use Rattle.std.specs.Vec.{vec_items}
use Rattle.tree_commands.proofs.lemmas.PuttingLemmas.{IsPutting}
use Rattle.tree_commands.proofs.files.pending.put_in_order.Given as goal

-- some of the paths are put, and the others are left
abbrev pub invariant-paths : goal.invariant-paths
invariant-paths l = IsPutting (map vec_items l.fn.paths.items) (map vec_items l.paths.items) l.list_count l.is_below l.fn.pending.items l.pending.items

abbrev pub decreases-paths : goal.decreases-paths
decreases-paths l = vec_len l.paths
