use Rattle.std.proofs.Common.{◌≡◌, ◌++◌, map}
use Rattle.std.specs.VecDeque.{deque_len}
use Rattle.git_index.specs.Entries.{tracked}
use Rattle.git_index.specs.Private.Reading.{named_in}
use Rattle.git_index.specs.Split.{put_in}
use Rattle.git_index.proofs.merge.merged.Given as goal

-- what is joined, and what the others make
abbrev pub invariant-loop-entry : goal.invariant-loop-entry
invariant-loop-entry l = map tracked l.joined.items ++ put_in (map tracked l.kept.items) (named_in (map tracked l.own.items)) ≡ put_in (map tracked l.initial.kept.items) (named_in (map tracked l.initial.own.items))

abbrev pub decreases-loop-entry : goal.decreases-loop-entry
decreases-loop-entry l = deque_len l.own
