-- The two cases of a letter are 32 apart.
use Rattle.glob_lists.proofs.lemmas.Asks.BitLemmas.{same_pair}
use Rattle.glob_lists.proofs.asks.literals.pair_of.Goals as goal

pub returns : goal.returns
returns c = same_pair c.args.first c.args.second
