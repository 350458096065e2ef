use Rattle.std.proofs.Common.{inl, inr, List, sym, subst, ◌∙◌}
use Rattle.std.specs.Prelude.{◌↔◌, IsTrue}
use Rattle.std.specs.List.{Any}
use Rattle.std.proofs.lemmas.Bool.{false≢true}
use Rattle.pathspecs.specs.Elements.{PathspecItem}
use Rattle.pathspecs.specs.Private.Asking.{Says}
use Rattle.pathspecs.proofs.lemmas.PartingLemmas.{by_place, by_text, either}
use Rattle.pathspecs.proofs.lists.PathspecList.say.Goals as goal

pub returns-then-say : goal.returns-then-say
returns-then-say c =
    let inside = c.self.inside in
    subst (λ (items : List PathspecItem). IsTrue c.say.result ↔ Any (λ item. Says c.args.asked item c.args.path.now) items) c.self.view_is
    ((λ yes. by_text inside.elements.items inside.texts inside.others.items c.self.invariant c.args.asked c.args.path.now (c.say.ensures.0 yes)), λ _. c.if-say.true)

pub returns-else-say : goal.returns-else-say
returns-else-say c =
    let inside = c.self.inside in
    let found = rw (c.deref.ensures.value, c.deref-else-say.ensures.value) at c.some_says.ensures in
    subst (λ (items : List PathspecItem). IsTrue c.some_says.result ↔ Any (λ item. Says c.args.asked item c.args.path.now) items) c.self.view_is (
      λ yes. by_place inside.elements.items inside.texts inside.others.items c.self.invariant c.args.asked c.args.path.now (found.0 yes),
      λ any. elim (either inside.elements.items inside.texts inside.others.items c.self.invariant c.args.asked c.args.path.now any) [
        | inl text ↦ absurd (false≢true (sym c.if-say.false ∙ c.say.ensures.1 text))
        | inr other ↦ found.1 other
      ],
    )
