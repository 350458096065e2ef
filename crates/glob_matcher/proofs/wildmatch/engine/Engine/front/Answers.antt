use Rattle.std.proofs.Common.{subst}
use Rattle.glob_matcher.specs.Steps.{Counts}
use Rattle.glob_matcher.specs.Private.Finding.{IsLiteralFront}
use Rattle.glob_matcher.specs.Private.Turns.{IsFront}
use Rattle.glob_matcher.proofs.lemmas.two_marks.Fronts.{front_compared}
use Rattle.glob_matcher.proofs.wildmatch.engine.Engine.front.Goals as goal

pub returns : goal.returns
returns g c =
    subst (λ (before : Counts). IsFront g.M.Texts.way g.M.Texts.pattern g.M.Texts.value c.literal_front.result before c.literal_front.new.self) c.self.view_is
    (front_compared
    (subst (λ way. IsLiteralFront way g.M.Texts.pattern g.M.Texts.value c.literal_front.result) c.way-way.ensures c.literal_front.ensures.front)
    c.literal_front.ensures.count)
