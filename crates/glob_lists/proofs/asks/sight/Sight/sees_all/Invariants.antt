use Rattle.glob_lists.proofs.lemmas.Asks.SightLemmas.{SeesUpTo}
use Rattle.glob_lists.proofs.asks.sight.Sight.sees_all.Given as goal

-- the rows so far are seen
abbrev pub invariant-places : goal.invariant-places
invariant-places l = SeesUpTo l.rows l.m l.self
