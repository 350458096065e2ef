use Rattle.std.proofs.Common.{rules}
use Rattle.git_index.proofs.lemmas.Holding.{splits_plain}
use Rattle.git_index.proofs.patterns.matches_rest.Goals as goal

pub returns : goal.returns
returns c = search (rules, splits_plain)
