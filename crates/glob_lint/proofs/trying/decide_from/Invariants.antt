-- No folder that ends before the place is ignored.
use Rattle.glob_lint.specs.Private.Asking.{NoneIgnoredUpTo}
use Rattle.glob_lint.specs.Seen.{seen}
use Rattle.glob_lint.proofs.trying.decide_from.Given as goal

abbrev pub invariant-places : goal.invariant-places
invariant-places l = NoneIgnoredUpTo (seen l.asked.lists.now) l.asked.rules l.path.bytes l.place
