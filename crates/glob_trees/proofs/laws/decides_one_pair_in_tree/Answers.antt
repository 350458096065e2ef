use Rattle.glob_trees.proofs.lemmas.InTree.{decides_in_tree_once}
use Rattle.glob_trees.proofs.laws.decides_one_pair_in_tree.Goals as goal

pub returns : goal.returns
returns g c = λ lists path is_dir rules. decides_in_tree_once lists path rules c.decides_one_pair.ensures is_dir
