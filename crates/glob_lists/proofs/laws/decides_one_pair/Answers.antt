use Rattle.glob_lists.proofs.lemmas.Deciding.DecidesOnce.{decides_once}
use Rattle.glob_lists.proofs.laws.decides_one_pair.Goals as goal

pub returns : goal.returns
returns g c = decides_once
