use Rattle.std.proofs.Common.{◌≡◌, ◌-◌, ◌<◌, ◌≤◌, length, Some}
use Rattle.std.specs.Prelude.{slice_get}
use Rattle.glob_lists.specs.declared.asks.row.Row.{Row}
use Rattle.glob_lists.specs.Private.Asks.Showing.{Passes}
use Rattle.glob_lists.proofs.asks.row.count_shown.Given as goal

-- as many rows were counted at most as were passed, and as there are; and the first one where it passes
abbrev pub invariant-rows : goal.invariant-rows
invariant-rows l = record {
  few : l.count ≤ l.m - l.from;
  most : l.count ≤ length l.rows - l.from;
  some : (row : Row) → l.from < l.m → slice_get l.rows l.from ≡ Some row → Passes row l.probe → 0 < l.count;
}
