-- What the entries of the name `path` include was looked up.
use Rattle.std.proofs.Common.{◌++◌, sym, ap, ◌∙◌}
use Rattle.std.specs.Prelude.{◌==◌, codes}
use Rattle.std.specs.List.{list_any}
use Rattle.std.specs.Option.{option_copied}
use Rattle.git_config.specs.Grammar.{before_zero}
use Rattle.git_config.proofs.lemmas.ScopeLemmas.{as_key}
use Rattle.git_config.proofs.scope.Scope.new.Goals as goal

pub returns-clause-scope : goal.returns-clause-scope
returns-clause-scope c =
    let own = sym (ap (λ v. v.keys.items) c.in_ok-new.ensures.ok) in
    let key = c.until_zero.ensures ∙ ap before_zero (c.deref-3.ensures.value ∙ c.in_ok-key.ensures ∙ ap (λ l. l ++ codes "path") (c.deref-2.ensures.value ∙ own)) in
    record {
      cut = c.has_zero-is_cut.ensures ∙ ap (λ l. list_any (λ b. b == 0) l) (c.deref.ensures.value ∙ own);
      includes = as_key c.args.around.now (option_copied c.args.real) c.in_ok-includes.includes _ _ (sym key) c.in_ok-includes.ensures;
    }
