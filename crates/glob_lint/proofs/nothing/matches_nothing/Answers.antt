-- What is seen of the fault holds.
use Rattle.std.proofs.Common.{rules}
use borrow.Author.Tests.{tests}
use Rattle.glob_lint.proofs.nothing.matches_nothing.Goals as goal

pub returns : goal.returns
returns c = λ yes. c.fault_of.ensures (search (rules, tests))
