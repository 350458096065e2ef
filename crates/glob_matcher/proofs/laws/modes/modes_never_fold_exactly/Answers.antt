use Rattle.glob_matcher.proofs.lemmas.reading.WayLemmas.{modes_are_inexact}
use Rattle.glob_matcher.proofs.laws.modes.modes_never_fold_exactly.Goals as goal

pub returns : goal.returns
returns c = modes_are_inexact
