use Rattle.std.proofs.Common.{◌≡◌}
use Rattle.glob_lists.proofs.lemmas.Lists.WalkLemmas.{HasPassedTo}
use Rattle.glob_lists.proofs.list.walk.Walk.next_other.Given as goal

-- the rows that were met don't pass
abbrev pub invariant-others : goal.invariant-others
invariant-others g l = record {
  same : l.self ≡ l.fn.self;
  passed : HasPassedTo l.rows l.own l.fn.self l.fn.counts l.other l.counts;
}

abbrev pub decreases-others : goal.decreases-others
decreases-others g l = l.other.0
