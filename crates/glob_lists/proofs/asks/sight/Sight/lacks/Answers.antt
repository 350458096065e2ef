-- One test of three bits tells.
use Rattle.std.proofs.lemmas.Bool.{eqb-true}
use Rattle.glob_lists.proofs.lemmas.Asks.SightLemmas.{Lacks-apart}
use Rattle.glob_lists.proofs.asks.sight.Sight.lacks.Goals as goal

pub returns : goal.returns
returns c none = Lacks-apart c.args.self.now c.args.short c.args.long (rw c.end_bit.ensures at (rw c.end_bit-2.ensures at (eqb-true _ _ none)))
