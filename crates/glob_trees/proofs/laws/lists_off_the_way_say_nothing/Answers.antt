use Rattle.glob_trees.proofs.lemmas.InTree.{off_the_way}
use Rattle.glob_trees.proofs.laws.lists_off_the_way_say_nothing.Goals as goal

pub returns : goal.returns
returns g c = λ lists emptied base path is_dir rules pair empties. off_the_way lists base emptied empties rules path is_dir pair
