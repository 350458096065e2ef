-- No byte so far is what is looked for or can't be passed, two steps were taken for each, and the rest of the stride is inside the
-- value.
use Rattle.std.proofs.Common.{◌≡◌, ◌+◌, ◌-◌, ◌*◌}
use Rattle.glob_matcher.specs.Private.Scans.{HasPassed}
use Rattle.glob_matcher.specs.Private.Takes.{Takes}
use Rattle.glob_matcher.proofs.wildmatch.engine.Engine.try_places.Given as goal

abbrev pub invariant-stride : goal.invariant-stride
invariant-stride g l = record {
  passed : HasPassed g.M.Texts.value (g.N.Needle.suits l.needle) g.B.Barrier.stops l.fn.mark l.reached;
  on : l.reached.at ≡ l.fn.mark.at + l.counter;
  count : Takes l.fn.self l.self (2 * (l.reached.at - l.fn.mark.at)) (2 * (l.reached.at - l.fn.mark.at));
}
