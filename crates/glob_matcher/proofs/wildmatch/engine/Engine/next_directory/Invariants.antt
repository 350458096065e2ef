-- No slash was passed so far, and each byte passed is counted.
use Rattle.std.proofs.Common.{◌≡◌, ◌+◌, ◌-◌, ◌≤◌, length}
use Rattle.glob_matcher.specs.Bytes.{NoSlash}
use Rattle.glob_matcher.specs.Private.Takes.{Takes}
use Rattle.glob_matcher.proofs.wildmatch.engine.Engine.next_directory.Given as goal

abbrev pub invariant-bytes : goal.invariant-bytes
invariant-bytes g l = record {
  place : l.reached.place ≡ l.fn.mark.place;
  low : l.fn.mark.at ≤ l.reached.at;
  inside : l.fn.mark.at ≤ length g.M.Texts.value → l.reached.at ≤ length g.M.Texts.value;
  bare : NoSlash g.M.Texts.value l.fn.mark.at l.reached.at;
  count : Takes l.fn.self l.self (l.reached.at - l.fn.mark.at) (l.reached.at - l.fn.mark.at);
}

abbrev pub decreases-bytes : goal.decreases-bytes
decreases-bytes g l = length g.M.Texts.value + 1 - l.reached.at
