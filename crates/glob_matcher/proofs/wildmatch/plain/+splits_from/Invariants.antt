-- What is left of the pattern grows less, and no end so far serves.
use Rattle.std.proofs.Common.{◌-◌, ◌<◌, ◌≤◌, ℕ, length}
use Rattle.glob_matcher.specs.Matching.{SplitsFrom}
use Rattle.glob_matcher.specs.Private.Fitting.{Spans}
use Rattle.glob_matcher.proofs.wildmatch.plain.+splits_from.Given as goal

abbrev pub invariant-ends : goal.invariant-ends
invariant-ends l =
    (e : ℕ) → l.at ≤ e → e < l.end → Spans l.token.kind l.value l.at e → SplitsFrom l.value e l.pattern l.token.end l.way → ⊥

abbrev pub decreases-splits_from : goal.decreases-splits_from
decreases-splits_from l = length l.pattern.now - l.place
