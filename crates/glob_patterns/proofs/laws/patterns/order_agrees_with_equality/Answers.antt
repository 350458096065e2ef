-- The derived comparisons compare the three parts in order.
use Rattle.std.proofs.Common.{sym, ◌∙◌}
use Rattle.std.specs.Cmp.{Equal-is}
use Rattle.glob_patterns.proofs.lemmas.PatternOrder.{equal_patterns}
use Rattle.glob_patterns.specs.contracts.pattern.PatternOrd.TheImpl.Laws.{matches_eq-law}
use Rattle.glob_patterns.proofs.laws.patterns.order_agrees_with_equality.Goals as goal

pub returns-clause-ties : goal.returns-clause-ties
returns-clause-ties c = λ p q.
    let same = matches_eq-law p q in
    (λ tie. same ∙ (Equal-is _).1 tie, λ equal. (Equal-is _).0 (sym same ∙ equal))

pub returns-clause-equality : goal.returns-clause-equality
returns-clause-equality c = equal_patterns
