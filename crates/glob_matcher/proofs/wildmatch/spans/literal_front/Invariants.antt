-- The bytes so far are passed.
use Rattle.std.proofs.Common.{ℕ, ◌-◌, ◌<◌, ◌≤◌, length, get_or}
use Rattle.glob_matcher.specs.Private.Finding.{PassesLiterally}
use Rattle.glob_matcher.proofs.wildmatch.spans.literal_front.Given as goal

abbrev pub invariant-bytes : goal.invariant-bytes
invariant-bytes l = record {
  inside : l.passed ≤ length l.pattern;
  within : l.passed ≤ length l.value;
  each : (m : ℕ) → m < l.passed → PassesLiterally l.way (get_or l.pattern m 0) (get_or l.value m 0);
}

abbrev pub decreases-bytes : goal.decreases-bytes
decreases-bytes l = length l.pattern - l.passed
