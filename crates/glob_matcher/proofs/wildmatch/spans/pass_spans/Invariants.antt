-- The spans so far are passed.
use Rattle.std.proofs.Common.{ℕ, ◌-◌, ◌<◌, ◌≤◌, length, get_or}
use Rattle.glob_matcher.specs.Private.Finding.{PassesLiterally}
use Rattle.glob_matcher.proofs.wildmatch.spans.pass_spans.Given as goal

abbrev pub invariant-spans : goal.invariant-spans
invariant-spans l = record {
  inside : l.passed ≤ length l.pattern;
  within : l.passed ≤ length l.value;
  each : (m : ℕ) → m < l.passed → PassesLiterally l.way (get_or l.pattern m 0) (get_or l.value m 0);
}

abbrev pub decreases-spans : goal.decreases-spans
decreases-spans l = length l.pattern - l.passed
