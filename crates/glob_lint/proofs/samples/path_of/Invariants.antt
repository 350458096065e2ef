-- Each turn reads a token.
use Rattle.glob_lint.specs.Private.Rows.{row_of, size}
use Rattle.glob_lint.proofs.samples.path_of.Given as goal

abbrev pub decreases-tokens : goal.decreases-tokens
decreases-tokens l = size (row_of l.left)
