use Rattle.std.proofs.Common.{◌≡◌, ◌++◌, map}
use Rattle.std.specs.VecDeque.{deque_len}
use Rattle.git_index.specs.Entries.{tracked}
use Rattle.git_index.specs.Split.{before, behind}
use Rattle.git_index.proofs.merge.move_before.Given as goal

abbrev pub invariant-loop-first : goal.invariant-loop-first
invariant-loop-first l = record {
  moved : map tracked l.joined.items ++ before (tracked l.added) (map tracked l.kept.items) ≡ map tracked l.initial.joined.items ++ before (tracked l.added) (map tracked l.initial.kept.items);
  left : behind (tracked l.added) (map tracked l.kept.items) ≡ behind (tracked l.added) (map tracked l.initial.kept.items);
}

abbrev pub decreases-loop-first : goal.decreases-loop-first
decreases-loop-first l = deque_len l.kept
