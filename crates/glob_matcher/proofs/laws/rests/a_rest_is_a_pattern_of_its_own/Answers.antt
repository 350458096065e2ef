use Rattle.glob_matcher.proofs.lemmas.cutting.RestLemmas.{rest_splits}
use Rattle.glob_matcher.proofs.laws.rests.a_rest_is_a_pattern_of_its_own.Goals as goal

pub returns : goal.returns
returns c way front rest value k alone = rest_splits front rest alone way value k
