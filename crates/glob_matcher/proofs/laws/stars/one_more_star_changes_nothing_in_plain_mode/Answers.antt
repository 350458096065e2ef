use Rattle.glob_matcher.proofs.lemmas.cutting.OneMoreStar.{same_splits, same_stars}
use Rattle.glob_matcher.proofs.laws.stars.one_more_star_changes_nothing_in_plain_mode.Goals as goal

pub returns-clause-splits : goal.returns-clause-splits
returns-clause-splits c = λ way p v i j plain start free. same_splits way p v i j plain start free

pub returns-clause-stars : goal.returns-clause-stars
returns-clause-stars c = λ way p i j n plain start free. same_stars way p i j n plain start free
