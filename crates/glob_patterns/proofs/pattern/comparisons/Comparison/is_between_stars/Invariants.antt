-- No byte so far is special, and a look was taken for each and for the last byte.
use Rattle.std.proofs.Common.{ℕ, ◌+◌, ◌<◌, ◌≤◌, get_or}
use Rattle.glob_matcher.specs.Bytes.{StandsForItself}
use Rattle.glob_matcher.specs.Private.Takes.{Takes}
use Rattle.glob_patterns.proofs.pattern.comparisons.Comparison.is_between_stars.Given as goal

abbrev pub invariant-bytes : goal.invariant-bytes
invariant-bytes g l = record {
  literal : (m : ℕ) → 1 ≤ m → m < l.place → StandsForItself (get_or g.M.Texts.pattern m 0);
  count : Takes l.fn.self l.self 0 (l.place + 1);
}
