-- A value begins with what it agrees with from its start on.
use Rattle.std.proofs.Common.{rules}
use Rattle.glob_patterns.proofs.lemmas.Agreement.{alike_front}
use Rattle.glob_patterns.proofs.pattern.comparisons.Comparison.begins_alike.Goals as goal

pub returns-clause-exact : goal.returns-clause-exact
returns-clause-exact g c = alike_front c.args.place (search rules) (search rules) c.agree_from.ensures.exact
