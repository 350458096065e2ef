-- Where both stars may take all bytes, the literal between them is what the value has to have.
use Rattle.std.proofs.Common.{sym, ◌∙◌}
use Rattle.glob_patterns.proofs.lemmas.Insides.{inside_exact}
use Rattle.glob_patterns.proofs.pattern.comparisons.Comparison.between_stars.Goals as goal

pub returns-clause-meaning : goal.returns-clause-meaning
returns-clause-meaning g c =
    inside_exact c.has_inside.result g.M.Texts.pattern g.M.Texts.value g.M.Texts.way
    (c.is_between_stars.ensures.exact.0 c.if-not-is_between_stars.false)
    (sym c.is_one_component.ensures.exact ∙ c.if-not-is_one_component.false) c.has_inside.ensures.exact
