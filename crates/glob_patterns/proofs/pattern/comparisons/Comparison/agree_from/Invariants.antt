-- The bytes so far agree, and a step and two looks were taken for each.
use Rattle.std.proofs.Common.{◌*◌}
use Rattle.glob_matcher.specs.Private.Takes.{Takes}
use Rattle.glob_patterns.specs.Private.Fronts.{AgreeFrom}
use Rattle.glob_patterns.proofs.pattern.comparisons.Comparison.agree_from.Given as goal

abbrev pub invariant-bytes : goal.invariant-bytes
invariant-bytes g l = record {
  agree : AgreeFrom g.M.Texts.way g.M.Texts.pattern g.M.Texts.value l.fn.place l.fn.at l.i;
  count : Takes l.fn.self l.self l.i (2 * l.i);
}
