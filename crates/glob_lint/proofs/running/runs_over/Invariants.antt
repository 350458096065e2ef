-- What the search knows is enough.
use Rattle.glob_lint.specs.Private.Rows.{row_of}
use Rattle.glob_lint.specs.Private.Running.{IsSound}
use Rattle.glob_lint.proofs.running.runs_over.Given as goal

abbrev pub invariant-turns : goal.invariant-turns
invariant-turns l = IsSound l.way (row_of l.fn.left) (row_of l.fn.right) l.search
