-- By its own rules the prepared lists answer.
use Rattle.std.proofs.Common.{◌≡◌, sym, ◌∙◌, subst, rules}
use borrow.Author.Tests.{tests}
use Rattle.glob_lists.specs.declared.rules.Rules.{Rules}
use Rattle.glob_lists.specs.Deciding.{Decides}
use Rattle.glob_lint.specs.Seen.{seen}
use Rattle.glob_lint.proofs.asked.AskedListsListStack.decide.Goals as goal

pub returns-then-eq-clause-exact : goal.returns-then-eq-clause-exact
returns-then-eq-clause-exact c = λ lawful.
    let asked = c.args.self.now in
    let path = c.args.path.now in
    let same : c.args.rules ≡ asked.rules = search (rules, tests) in
    let own = subst (λ lists. Decides (seen lists) path.bytes path.is_dir asked.stack.rules c.decide.result) asked.same_lists c.decide.ensures in
    subst (λ (rules : Rules). Decides (seen asked.lists.now) path.bytes path.is_dir rules c.decide.result) (asked.same_rules ∙ sym same) own
