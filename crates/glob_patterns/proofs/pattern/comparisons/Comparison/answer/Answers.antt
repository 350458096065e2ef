-- Each comparison answers what the tokens of the text say.
use Rattle.std.proofs.Common.{sym, ◌∙◌, subst}
use Rattle.std.specs.Prelude.{◌↔◌, Bool, IsTrue}
use Rattle.glob_matcher.specs.Matching.{SplitsBy}
use Rattle.glob_patterns.proofs.lemmas.Shortcuts.{whole_exact, end_exact, end_refused, front_refused}
use Rattle.glob_patterns.proofs.pattern.comparisons.Comparison.answer.Goals as goal

pub returns-in_default-clause-meaning : goal.returns-in_default-clause-meaning
returns-in_default-clause-meaning g c = λ lawful.
    whole_exact c.are_alike.result g.M.Texts.pattern g.M.Texts.value g.M.Texts.way (sym lawful.placed ∙ c.in_default.is)
    c.are_alike.ensures.exact

pub returns-then-not-contains-clause-meaning : goal.returns-then-not-contains-clause-meaning
returns-then-not-contains-clause-meaning g c = λ lawful.
    front_refused c.begins_alike.result g.M.Texts.pattern g.M.Texts.value g.M.Texts.way c.in-Some.pos
    (sym lawful.placed ∙ c.in-Some.is) c.if-begins_alike.false c.begins_alike.ensures.exact

pub returns-then-not-ends_alike-clause-meaning : goal.returns-then-not-ends_alike-clause-meaning
returns-then-not-ends_alike-clause-meaning g c = λ lawful.
    end_refused c.ends_alike.result g.M.Texts.pattern g.M.Texts.value g.M.Texts.way
    (lawful.ends (sym (c.contains.ensures tt) ∙ c.if-not-contains.false)) c.if-not-ends_alike.true c.ends_alike.ensures.exact

pub returns-then-is_one_component-clause-meaning : goal.returns-then-is_one_component-clause-meaning
returns-then-is_one_component-clause-meaning g c = λ lawful.
    subst (λ (answer : Bool). IsTrue answer ↔ SplitsBy g.M.Texts.value g.M.Texts.pattern g.M.Texts.way)
    c.if-not-ends_alike.false
    (end_exact c.ends_alike.result g.M.Texts.pattern g.M.Texts.value g.M.Texts.way
    (lawful.ends (sym (c.contains.ensures tt) ∙ c.if-not-contains.false))
    (sym c.is_one_component.ensures.exact ∙ c.if-is_one_component.true)
    c.ends_alike.ensures.exact)
