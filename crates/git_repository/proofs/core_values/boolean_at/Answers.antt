-- The last entry says it.
use Rattle.std.proofs.Common.{◌∙◌, ap, sym, unwrap_or}
use Rattle.git_config.specs.Configuration.{seen_setting}
use Rattle.git_repository.specs.Values.{boolean_at}
use Rattle.git_repository.proofs.lemmas.LastLemmas.{last_value-is}
use Rattle.git_repository.proofs.core_values.boolean_at.Goals as goal

pub returns-in-Some : goal.returns-in-Some
returns-in-Some c =
    let last = last_value-is c.args.key.now c.args.config.now c.in-Some.ensures.0 (seen_setting c.in-Some.setting) c.in-Some.ensures.1 in
    c.unwrap_or.ensures
    ∙ ap (λ o. unwrap_or o c.args.default) c.boolean.ensures
    ∙ sym (ap (λ o. boolean_at c.args.default o) last)
