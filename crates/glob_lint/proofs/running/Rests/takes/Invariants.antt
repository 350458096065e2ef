-- Each byte so far is taken by the right token where the left one takes it.
use Rattle.std.proofs.Common.{ℕ, ◌<◌}
use Rattle.glob_matcher.specs.Matching.{Fits}
use Rattle.glob_lint.specs.Private.Rows.{IsNext, Row, row_of}
use Rattle.glob_lint.proofs.running.Rests.takes.Given as goal

abbrev pub invariant-bytes : goal.invariant-bytes
invariant-bytes l = (left_after right_after : Row) (x : IsNext l.way (row_of l.self.left) l.left left_after) (y : IsNext l.way (row_of l.self.right) l.right right_after)
    → (b : ℕ) → b < l.code → Fits l.way x.token b → Fits l.way y.token b
