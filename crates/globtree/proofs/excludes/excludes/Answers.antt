use Rattle.globtree.proofs.lemmas.FrontLemmas.{file_spells}
use Rattle.globtree.proofs.excludes.excludes.Goals as goal

pub returns : goal.returns
returns g c = file_spells _ _ c.in_ok-file_list.ensures
