-- Each line of the lists so far has the sign of the one at the pair, or is apart from it.
use Rattle.std.proofs.Common.{ℕ, ◌<◌}
use Rattle.glob_lists.specs.Deciding.{HasEntryAt}
use Rattle.glob_lint.specs.Seen.{seen}
use Rattle.glob_lint.specs.Private.Reasons.{AlikeAt}
use Rattle.glob_lint.proofs.why.are_alike_from.Given as goal

abbrev pub invariant-lists : goal.invariant-lists
invariant-lists l = (i : ℕ) → i < l.at → (m : ℕ) → HasEntryAt (seen l.lists) (i, m) → AlikeAt l.rules (seen l.lists) l.first l.pair (i, m)
