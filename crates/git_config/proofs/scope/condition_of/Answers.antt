-- Both ends are taken off.
use Rattle.git_config.proofs.lemmas.ScopeLemmas.{condition_as}
use Rattle.git_config.proofs.scope.condition_of.Goals as goal

pub returns : goal.returns
returns c = let front = c.in-Some.ensures.cases in condition_as _ c.args.key.now c.in-Some.rest.now front.0 front.1 c.strip_suffix.ensures.cases
