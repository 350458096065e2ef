-- The folders on the way are told by the path, and their lists by the source.
use Rattle.glob_trees.proofs.lemmas.OneWay.{one_way}
use Rattle.glob_trees.proofs.laws.no_answer_depends_on_what_is_kept.Goals as goal

pub returns : goal.returns
returns g c = λ source front_count lists other rules path one fronts first second.
    one_way (g.S.FolderLists.shows g.T.Pattern.Seen source) one front_count rules path lists other fronts first second
