-- The word is taken off.
use Rattle.git_config.proofs.lemmas.ConditionLemmas.{behind_as}
use Rattle.git_config.proofs.conditions.behind.Goals as goal

pub returns : goal.returns
returns c = behind_as _ c.args.word.now c.args.condition.now c.strip_prefix.ensures.cases
