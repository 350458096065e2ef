-- At no place so far does the value have the bytes, and two looks for each of them were counted at each.
use Rattle.std.proofs.Common.{ℕ, ◌-◌, ◌*◌, ◌<◌, length}
use Rattle.gix_glob.specs.Ways.{way_of}
use Rattle.glob_lists.specs.Rules.{path_mode}
use Rattle.glob_patterns.specs.Private.Fronts.{AgreeFrom}
use Rattle.glob_lists.specs.Private.Looking.{LooksUpTo}
use Rattle.glob_lists.proofs.list.answering.has_inside.Given as goal

abbrev pub invariant-places : goal.invariant-places
invariant-places g l = record {
  none : (k : ℕ) → k < l.at → ¬ AgreeFrom (way_of path_mode) l.text l.value 1 k (length l.text - 2);
  looks : LooksUpTo l.fn.counts l.counts (2 * length l.text * l.at);
}
