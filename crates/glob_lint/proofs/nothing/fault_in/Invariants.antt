-- What is read is this of a part.
use Rattle.glob_lint.specs.Private.Parts.{StandsAt}
use Rattle.glob_lint.specs.Private.Rows.{row_of, size}
use Rattle.glob_lint.proofs.nothing.fault_in.Given as goal

abbrev pub invariant-tokens : goal.invariant-tokens
invariant-tokens l = StandsAt l.way (row_of l.fn.tokens) (row_of l.left) l.part

abbrev pub decreases-tokens : goal.decreases-tokens
decreases-tokens l = size (row_of l.left)
