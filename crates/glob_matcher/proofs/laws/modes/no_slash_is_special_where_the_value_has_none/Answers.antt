use Rattle.glob_matcher.specs.Ways.{way_of}
use Rattle.glob_matcher.proofs.lemmas.cutting.NoSlashes.{no_dirs_without_slash, no_dirs_without_stars, splits_alike}
use Rattle.glob_matcher.proofs.lemmas.reading.WayLemmas.{same_folding}
use Rattle.glob_matcher.proofs.laws.modes.no_slash_is_special_where_the_value_has_none.Goals as goal

pub returns-clause-bare : goal.returns-clause-bare
returns-clause-bare c = λ mode other p v case bare no_slash.
    splits_alike (way_of mode) (way_of other) p v (same_folding mode other case) bare (no_dirs_without_slash p no_slash)

pub returns-clause-one_star : goal.returns-clause-one_star
returns-clause-one_star c = λ mode other p v case bare few.
    splits_alike (way_of mode) (way_of other) p v (same_folding mode other case) bare (no_dirs_without_stars p few)
