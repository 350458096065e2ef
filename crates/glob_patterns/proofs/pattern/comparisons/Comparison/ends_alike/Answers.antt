-- A value ends in what it agrees with up to its end.
use Rattle.std.proofs.Common.{rules}
use Rattle.glob_patterns.proofs.lemmas.Agreement.{alike_end}
use Rattle.glob_patterns.proofs.pattern.comparisons.Comparison.ends_alike.Goals as goal

pub returns-clause-exact : goal.returns-clause-exact
returns-clause-exact g c = alike_end (search rules) (search rules) (search rules) (search rules) c.agree_from.ensures.exact
