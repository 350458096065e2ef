use Rattle.glob_patterns.proofs.lemmas.WholeFronts.{front_is_whole}
use Rattle.glob_patterns.proofs.laws.patterns.a_front_without_stars_behind_it_changes_nothing.Goals as goal

pub returns : goal.returns
returns c = front_is_whole
