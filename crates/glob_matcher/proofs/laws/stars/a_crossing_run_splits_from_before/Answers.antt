use Rattle.glob_matcher.proofs.lemmas.cutting.SplitLemmas.{free_before}
use Rattle.glob_matcher.proofs.laws.stars.a_crossing_run_splits_from_before.Goals as goal

pub returns : goal.returns
returns c = λ way p v i j k e here low inside all. free_before here low inside all
