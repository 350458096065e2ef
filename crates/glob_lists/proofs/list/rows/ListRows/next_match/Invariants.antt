use Rattle.std.proofs.Common.{◌≤◌, length}
use Rattle.gix_glob.specs.EntryLists.{entry_list_of}
use Rattle.glob_lists.specs.Private.Lists.Answering.{IsWalkOf, NoneAnswers, SpendsDown}
use Rattle.glob_lists.proofs.list.rows.ListRows.next_match.Given as goal

-- no mapping that was passed answers, and what was counted is what those may take
abbrev pub invariant-candidates : goal.invariant-candidates
invariant-candidates g l = record {
  walk : IsWalkOf l.self l.question.probe l.walk;
  none : NoneAnswers (entry_list_of g.T.Pattern.seen l.list) l.question.path.now l.question.rules l.walk.passed_from l.fn.walk.passed_from;
  low : l.walk.passed_from ≤ l.fn.walk.passed_from;
  spent : SpendsDown (entry_list_of g.T.Pattern.seen l.list) (length l.question.path.now.bytes) l.fn.walk.passed_from l.walk.passed_from l.fn.counts l.counts;
}

abbrev pub decreases-candidates : goal.decreases-candidates
decreases-candidates g l = l.walk.passed_from
