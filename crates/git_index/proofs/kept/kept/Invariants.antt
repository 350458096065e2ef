use Rattle.std.proofs.Common.{◌≡◌, ◌++◌, map}
use Rattle.std.specs.VecDeque.{deque_len}
use Rattle.git_index.specs.Entries.{tracked}
use Rattle.git_index.specs.Split.{replaced_by, unmarked}
use Rattle.git_index.proofs.kept.kept.Given as goal

-- what is kept, and what is kept of those that are left
abbrev pub invariant-loop-entry : goal.invariant-loop-entry
invariant-loop-entry l =
    map tracked l.kept.items ++ unmarked (replaced_by (map tracked l.left.items) l.replaced (map tracked l.new)) l.deleted ≡ unmarked (replaced_by (map tracked l.fn.shared.items) l.fn.replaced (map tracked l.fn.new)) l.fn.deleted

abbrev pub decreases-loop-entry : goal.decreases-loop-entry
decreases-loop-entry l = deque_len l.left
