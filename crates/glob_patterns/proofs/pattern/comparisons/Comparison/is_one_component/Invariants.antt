-- No byte so far is a slash, and one step and one look were taken for each.
use Rattle.glob_matcher.specs.Bytes.{NoSlash}
use Rattle.glob_matcher.specs.Private.Takes.{Takes}
use Rattle.glob_patterns.proofs.pattern.comparisons.Comparison.is_one_component.Given as goal

abbrev pub invariant-bytes : goal.invariant-bytes
invariant-bytes g l = record {
  free : NoSlash g.M.Texts.value 0 l.at;
  count : Takes l.fn.self l.self l.at l.at;
}
