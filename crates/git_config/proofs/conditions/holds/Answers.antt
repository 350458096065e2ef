-- The URLs of remotes, and another word.
use Rattle.std.specs.Option.{option_copied}
use Rattle.std.proofs.lemmas.Bool.{false≢true}
use Rattle.git_config.proofs.lemmas.ConditionLemmas.{holds_not, holds_url}
use Rattle.git_config.proofs.conditions.holds.Goals as goal

pub returns-in-Some-behind-3 : goal.returns-in-Some-behind-3
returns-in-Some-behind-3 c = holds_url c.args.around.now (option_copied c.args.real) c.args.condition.now c.in-Some-behind-3.told.now _ c.in-Some-behind-3.ensures c.has_url.ensures

pub returns-in-None : goal.returns-in-None
returns-in-None c =
    (λ t. absurd (false≢true t), λ h. absurd (holds_not c.args.around.now (option_copied c.args.real) c.args.condition.now c.in_default.ensures c.in_default-behind.ensures c.in_default-behind-2.ensures c.in-None.ensures h))
