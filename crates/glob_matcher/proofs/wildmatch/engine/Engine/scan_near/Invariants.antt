-- No byte so far is what is looked for or can't be passed, and two steps were taken for each.
use Rattle.std.proofs.Common.{◌-◌, ◌*◌, length}
use Rattle.glob_matcher.specs.Private.Scans.{HasPassed}
use Rattle.glob_matcher.specs.Private.Takes.{Takes}
use Rattle.glob_matcher.proofs.wildmatch.engine.Engine.scan_near.Given as goal

abbrev pub invariant-bytes : goal.invariant-bytes
invariant-bytes g l = record {
  passed : HasPassed g.M.Texts.value (g.N.Needle.suits l.needle) g.B.Barrier.stops l.fn.mark l.reached;
  count : Takes l.fn.self l.self (2 * (l.reached.at - l.fn.mark.at)) (2 * (l.reached.at - l.fn.mark.at));
}

abbrev pub decreases-bytes : goal.decreases-bytes
decreases-bytes g l = length g.M.Texts.value - l.reached.at
