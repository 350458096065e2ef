use Rattle.glob_matcher.proofs.lemmas.reading.TokenLemmas.{From-unique}
use Rattle.glob_matcher.proofs.laws.readings.a_pattern_has_one_reading.Goals as goal

pub returns : goal.returns
returns c = λ way p i ts us x y. From-unique way p i ts us x y
