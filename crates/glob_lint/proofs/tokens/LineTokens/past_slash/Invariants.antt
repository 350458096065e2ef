-- What stands before the tokens that are left is some text.
use Rattle.glob_lint.specs.Private.Rows.{row_of, size}
use Rattle.glob_lint.specs.Private.Running.{Reaches}
use Rattle.glob_lint.proofs.tokens.LineTokens.past_slash.Given as goal

abbrev pub invariant-tokens : goal.invariant-tokens
invariant-tokens l = Reaches l.way (row_of l.self) (row_of l.left)

abbrev pub decreases-tokens : goal.decreases-tokens
decreases-tokens l = size (row_of l.left)
