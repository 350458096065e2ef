-- Bit by bit: nothing is needed that isn't held.
use Rattle.std.proofs.lemmas.Bool.{eq-eqb, eqb-true}
use Rattle.glob_lists.proofs.lemmas.Asks.BitLemmas.{missing_bits-HasAll, HasAll-none_missing}
use Rattle.glob_lists.proofs.asks.literals.has_all.Goals as goal

pub returns : goal.returns
returns c = (
  λ none. HasAll-none_missing c.args.held c.args.needed c.ranges.held.fits c.ranges.needed.fits (eqb-true _ _ none),
  λ all. eq-eqb _ _ (missing_bits-HasAll c.args.held c.args.needed c.ranges.held.fits c.ranges.needed.fits all),
)
