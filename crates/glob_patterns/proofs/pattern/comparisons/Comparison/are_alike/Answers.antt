-- Texts of one length that agree byte by byte are alike.
use Rattle.std.proofs.Common.{rules, sym}
use Rattle.glob_patterns.proofs.lemmas.Agreement.{alike_whole}
use Rattle.glob_patterns.proofs.pattern.comparisons.Comparison.are_alike.Goals as goal

pub returns-clause-exact : goal.returns-clause-exact
returns-clause-exact g c = alike_whole (sym c.pattern_len-len.ensures) (search rules) c.agree_from.ensures.exact
