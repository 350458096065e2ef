-- At no place so far does the value have the bytes, and each place took at most one step and two looks for each of them.
use Rattle.std.proofs.Common.{ℕ, ◌-◌, ◌*◌, ◌<◌, length}
use Rattle.glob_patterns.specs.Private.Fronts.{AgreeFrom}
use Rattle.glob_patterns.specs.Private.Shown.{TakesUpTo}
use Rattle.glob_patterns.proofs.pattern.comparisons.Comparison.has_inside.Given as goal

abbrev pub invariant-places : goal.invariant-places
invariant-places g l = record {
  none : (k : ℕ) → k < l.at → ¬ AgreeFrom g.M.Texts.way g.M.Texts.pattern g.M.Texts.value 1 k (length g.M.Texts.pattern - 2);
  count : TakesUpTo l.fn.self l.self (length g.M.Texts.pattern * l.at) (2 * length g.M.Texts.pattern * l.at);
}
