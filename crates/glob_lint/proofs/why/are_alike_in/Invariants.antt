-- Each line so far has the sign of the one at the pair, or is apart from it.
use Rattle.std.proofs.Common.{ℕ, ◌<◌}
use Rattle.glob_lint.specs.Seen.{seen}
use Rattle.glob_lint.specs.Private.Reasons.{AlikeAt}
use Rattle.glob_lint.proofs.why.are_alike_in.Given as goal

abbrev pub invariant-lines : goal.invariant-lines
invariant-lines l = (m : ℕ) → m < l.place → AlikeAt l.rules (seen l.lists) l.first l.pair (l.at, m)
