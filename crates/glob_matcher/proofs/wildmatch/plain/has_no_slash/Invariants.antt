-- No place so far has a slash.
use Rattle.std.proofs.Common.{◌≡◌, ℕ, ◌<◌, ◌≤◌, get_or}
use Rattle.glob_matcher.proofs.wildmatch.plain.has_no_slash.Given as goal

abbrev pub invariant-loop-reached : goal.invariant-loop-reached
invariant-loop-reached l = (m : ℕ) → l.at ≤ m → m < l.reached → get_or l.value m 0 ≡ 47 → ⊥
