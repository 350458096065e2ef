-- Since that place each token was a byte.
use Rattle.glob_lint.specs.Private.Ends.{IsBareSince}
use Rattle.glob_lint.specs.Private.Rows.{row_of, size}
use Rattle.glob_lint.proofs.apart.literal_end.Given as goal

abbrev pub invariant-tokens : goal.invariant-tokens
invariant-tokens l = IsBareSince l.way (row_of l.fn.tokens) (row_of l.left) l.from

abbrev pub decreases-tokens : goal.decreases-tokens
decreases-tokens l = size (row_of l.left)
