-- A value of which no byte is a slash has none.
use Rattle.std.proofs.Common.{rules}
use Rattle.glob_matcher.specs.Bytes.{is_path}
use Rattle.glob_patterns.proofs.lemmas.Agreement.{is_one}
use Rattle.glob_patterns.proofs.pattern.comparisons.Comparison.is_one_component.Goals as goal

pub returns-clause-exact : goal.returns-clause-exact
returns-clause-exact g c = is_one (is_path g.M.Texts.way) c.bytes.at (search rules) c.bytes.invariant.free
