use Rattle.std.proofs.Common.{length, map}
use Rattle.git_index.specs.Entries.{InOrder, tracked}
use Rattle.git_index.proofs.order.is_ordered.Given as goal

abbrev pub invariant-loop-rest : goal.invariant-loop-rest
invariant-loop-rest l = (InOrder (map tracked l.rest) → InOrder (map tracked l.entries)) × (InOrder (map tracked l.entries) → InOrder (map tracked l.rest))

abbrev pub decreases-loop-rest : goal.decreases-loop-rest
decreases-loop-rest l = length l.rest
