-- The next match from the end on is the last one.
use Rattle.std.proofs.Common.{length, arith}
use Rattle.gix_glob.specs.EntryLists.{entry_list_of}
use Rattle.glob_lists.proofs.lemmas.Lists.ListLemmas.{IsLastMatch-found, Spends-down}
use Rattle.glob_lists.proofs.list.rows.ListRows.last_match.Goals as goal

pub returns-clause-last : goal.returns-clause-last
returns-clause-last g c =
    let list = entry_list_of g.T.Pattern.seen c.args.list.now in
    IsLastMatch-found list c.args.question.now.path.now c.args.question.now.rules c.next_match.new.walk.passed_from c.walk-walk.result.passed_from c.next_match.result
    (omega (arith, c.walk-walk.ensures.all, c.requires.of.asked.many)) c.next_match.ensures.next

pub returns-clause-spends : goal.returns-clause-spends
returns-clause-spends g c =
    let list = entry_list_of g.T.Pattern.seen c.args.list.now in
    Spends-down list (length c.args.question.now.path.now.bytes) c.walk-walk.result.passed_from c.next_match.new.walk.passed_from c.args.counts.now c.rest.new.counts c.next_match.new.counts
    (omega (arith, c.walk-walk.ensures.all, c.requires.of.asked.many)) c.in_ok-rest.ensures.looks c.next_match.ensures.spends
