use Rattle.globtree.proofs.fronts.fronts_on.Goals as goal

pub returns-clause-unread : goal.returns-clause-unread
returns-clause-unread g c = c.in_ok-tracked.ensures.unread
