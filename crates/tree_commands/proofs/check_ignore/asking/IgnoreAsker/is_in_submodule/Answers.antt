use Rattle.std.proofs.Common.{ℕ, List, IsTrue, ◌↔◌, refl, subst}
use Rattle.git_index.specs.Holding.{LiesInSubmodule}
use Rattle.tree_commands.proofs.lemmas.IgnoreLemmas.{lies_in_some}
use Rattle.tree_commands.proofs.check_ignore.asking.IgnoreAsker.is_in_submodule.Goals as goal

pub returns : goal.returns
returns g c =
    let tracked = c.args.self.now.tracked in
    subst (λ (asked : List ℕ). IsTrue c.is_some.result ↔ LiesInSubmodule tracked asked) c.deref.ensures.value
    (lies_in_some tracked tracked c.deref.result.now refl c.submodule_of.result c.is_some.result c.is_some.ensures c.submodule_of.ensures.some c.submodule_of.ensures.none)
