use Rattle.std.proofs.Common.{map}
use Rattle.gix_glob.specs.EntryLists.{entry_list_of}
use Rattle.glob_lists.specs.Private.Lists.Answering.{IsWalkOf}
use Rattle.glob_lists.specs.Private.Stack.Finding.{AreFoundFrom}
use Rattle.glob_lists.proofs.stack.lists.PreparedLists.push_matches.Given as goal

-- the pairs of the mappings that were passed were found
abbrev pub invariant-matches : goal.invariant-matches
invariant-matches g l = record {
  walk : IsWalkOf l.rows l.question.probe l.walk;
  found : AreFoundFrom (map (entry_list_of g.T.Pattern.seen) l.self) l.question.path.now l.question.rules l.i l.walk.passed_from l.pairs.items;
}

abbrev pub decreases-matches : goal.decreases-matches
decreases-matches g l = l.walk.passed_from
