-- No folder that ends before the place is ignored without the line.
use Rattle.std.specs.Prelude.{[], ◌∷◌}
use Rattle.glob_trees.proofs.lemmas.Topmost.{NoneIgnoredBefore}
use Rattle.glob_lint.specs.Seen.{seen}
use Rattle.glob_lint.specs.Without.{lists_but}
use Rattle.glob_lint.proofs.trying.is_ignored_without.Given as goal

abbrev pub invariant-places : goal.invariant-places
invariant-places l = NoneIgnoredBefore (lists_but (l.line.pair ∷ []) 0 (seen l.line.asked.now.lists.now)) l.line.asked.now.rules l.path.bytes l.place
