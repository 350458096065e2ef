use Rattle.std.proofs.Common.{◌≡◌, ◌++◌, map}
use Rattle.std.specs.VecDeque.{deque_len}
use Rattle.git_index.specs.Entries.{tracked}
use Rattle.git_index.proofs.merge.move_all.Given as goal

abbrev pub invariant-loop-entry : goal.invariant-loop-entry
invariant-loop-entry l = map tracked l.joined.items ++ map tracked l.kept.items ≡ map tracked l.initial.joined.items ++ map tracked l.initial.kept.items

abbrev pub decreases-loop-entry : goal.decreases-loop-entry
decreases-loop-entry l = deque_len l.kept
