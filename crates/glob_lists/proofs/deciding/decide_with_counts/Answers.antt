-- No list takes more looks than the limit says.
use Rattle.std.proofs.Common.{map, arith}
use Rattle.gix_glob.specs.EntryLists.{entry_list_of}
use Rattle.glob_lists.proofs.lemmas.Deciding.DecisionSums.{sum_by-nothing}
use Rattle.glob_lists.proofs.deciding.decide_with_counts.Goals as goal

pub returns-clause-looks : goal.returns-clause-looks
returns-clause-looks g c = omega (arith, sum_by-nothing (map (entry_list_of g.T.Pattern.seen) c.args.lists.now), c.decide_among.ensures.spends.looks)
