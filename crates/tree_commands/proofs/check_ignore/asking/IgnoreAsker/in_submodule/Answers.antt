use Rattle.std.proofs.Common.{ℕ, List, rules, subst, take}
use Rattle.git_index.specs.Holding.{LiesInSubmodule}
use Rattle.tree_commands.proofs.check_ignore.asking.IgnoreAsker.in_submodule.Goals as goal

pub returns-in-Ok : goal.returns-in-Ok
returns-in-Ok g c = (
  search rules,
  take c.args.bare c.args.self.now.path.items,
  c.requires.leads,
  subst (λ (asked : List ℕ). LiesInSubmodule c.args.self.now.tracked asked) c.requires.asked c.requires.below,
)
