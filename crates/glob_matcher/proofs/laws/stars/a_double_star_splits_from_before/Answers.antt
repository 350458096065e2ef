use Rattle.glob_matcher.proofs.lemmas.cutting.SplitLemmas.{dirs_before}
use Rattle.glob_matcher.proofs.laws.stars.a_double_star_splits_from_before.Goals as goal

pub returns : goal.returns
returns c = λ way p v i j k e here low inside is all. dirs_before here low inside is all
