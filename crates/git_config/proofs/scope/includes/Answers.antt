-- The condition decides.
use Rattle.std.proofs.Common.{sym, ◌∙◌}
use Rattle.std.proofs.lemmas.Bool.{false≢true}
use Rattle.std.specs.Option.{option_copied}
use Rattle.git_config.proofs.lemmas.ScopeLemmas.{by_condition}
use Rattle.git_config.proofs.scope.includes.Goals as goal

pub returns-in-Some : goal.returns-in-Some
returns-in-Some c =
    by_condition c.args.around.now (option_copied c.args.real) c.args.key.now c.in-Some.condition.now _ (λ e. false≢true (sym c.if-is_same.false ∙ c.is_same.ensures.1 e)) c.in-Some.ensures c.holds.ensures
