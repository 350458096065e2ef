use Rattle.glob_matcher.proofs.lemmas.reading.LookLemmas.{one_look}
use Rattle.glob_matcher.proofs.wildmatch.engine.Engine.has_byte.Goals as goal

pub returns-clause-count : goal.returns-clause-count
returns-clause-count g c = one_look c.look_at.result c.look_at.ensures.count
