-- One row more is seen.
use Rattle.std.proofs.Common.{arith, refl}
use Rattle.glob_lists.proofs.lemmas.Asks.SightLemmas.{SeesUpTo-all, SeesUpTo-more}
use Rattle.glob_lists.proofs.asks.sight.Sight.sees_all.Goals as goal

pub places-preserved : goal.places-preserved
places-preserved c = SeesUpTo-more c.args.rows.now c.places.m _ refl c.args.self.now _ (omega arith) (c.sees.ensures c.if-not-sees.false) c.places.invariant

pub returns : goal.returns
returns c told = SeesUpTo-all c.args.rows.now c.places.m c.args.self.now (omega arith) c.places.invariant
