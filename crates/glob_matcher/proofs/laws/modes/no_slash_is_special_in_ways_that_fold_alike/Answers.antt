use Rattle.glob_matcher.proofs.lemmas.cutting.NoSlashes.{no_dirs_without_slash, no_dirs_without_stars, splits_alike}
use Rattle.glob_matcher.proofs.laws.modes.no_slash_is_special_in_ways_that_fold_alike.Goals as goal

pub returns-clause-bare : goal.returns-clause-bare
returns-clause-bare c = λ way other p v case bare no_slash. splits_alike way other p v case bare (no_dirs_without_slash p no_slash)

pub returns-clause-one_star : goal.returns-clause-one_star
returns-clause-one_star c = λ way other p v case bare few. splits_alike way other p v case bare (no_dirs_without_stars p few)
