-- The list is the one that is prepared. Without rows its mappings are tested, and no look is taken for a row.
use Rattle.std.proofs.Common.{length, arith}
use Rattle.gix_glob.specs.EntryLists.{entry_list_of}
use Rattle.glob_lists.specs.Private.Lists.Answering.{Spends}
use Rattle.glob_lists.proofs.list.prepared_list.PreparedList.last_match.Goals as goal

pub returns-in-Some-clause-last : goal.returns-in-Some-clause-last
returns-in-Some-clause-last g c = rw c.self.view_is at c.last_match.ensures.last

pub returns-in-Some-clause-spends : goal.returns-in-Some-clause-spends
returns-in-Some-clause-spends g c = rw c.self.view_is at c.last_match.ensures.spends

pub returns-in-None-clause-last : goal.returns-in-None-clause-last
returns-in-None-clause-last g c = rw c.self.view_is at c.last_match-in-None.ensures.last

pub returns-in-None-clause-spends : goal.returns-in-None-clause-spends
returns-in-None-clause-spends g c =
    let spends : Spends (entry_list_of g.T.Pattern.seen c.self.inside.list) (length c.args.question.now.path.now.bytes) c.args.counts.now c.last_match-in-None.new.counts = record {
      steps = c.last_match-in-None.ensures.steps;
      looks = omega (arith, c.last_match-in-None.ensures.looks);
      grows = c.last_match-in-None.ensures.grows;
    } in
    rw c.self.view_is at spends
