-- A later line covers, or an earlier one back to which each line is alike.
use Rattle.std.proofs.Common.{inl, inr, rules}
use borrow.Author.Tests.{tests}
use Rattle.glob_lint.proofs.why.is_covered.Goals as goal

pub returns-then-comes_before : goal.returns-then-comes_before
returns-then-comes_before c = λ yes. (c.covers_at.ensures (search (rules, tests)), inl (c.comes_before.ensures.0 yes))

pub returns-then-comes_before-2 : goal.returns-then-comes_before-2
returns-then-comes_before-2 c = λ yes. (c.covers_at.ensures (search (rules, tests)), inr (c.comes_before-else-comes_before.ensures.0 c.if-comes_before-2.true, c.are_alike_from.ensures yes))
