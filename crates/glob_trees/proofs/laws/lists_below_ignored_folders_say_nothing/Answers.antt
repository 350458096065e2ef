use Rattle.glob_trees.proofs.lemmas.InTree.{below_ignored}
use Rattle.glob_trees.proofs.laws.lists_below_ignored_folders_say_nothing.Goals as goal

pub returns : goal.returns
returns g c = λ lists emptied folder below path is_dir rules by pair empties ignored. below_ignored lists folder below emptied empties rules by ignored path is_dir pair
