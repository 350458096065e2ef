use Rattle.std.proofs.Common.{inl, inr, arith, refl, sym, ◌∙◌}
use Rattle.std.proofs.lemmas.Bool.{false≢true}
use Rattle.pathspecs.proofs.lemmas.AboveLemmas.{below_ends, ends_below}
use Rattle.pathspecs.proofs.texts.Texts.have_above.Goals as goal

pub returns-then-end_at : goal.returns-then-end_at
returns-then-end_at c = (λ _. ends_below c.args.self.now c.args.path.now c.places.place c.places-test.true (c.end_at.ensures.0 c.if-end_at.true), λ _. refl)

pub returns : goal.returns
returns c = (
  λ never. absurd (false≢true never),
  λ has. elim (below_ends c.args.self.now c.args.path.now has) [
    | inl top ↦ absurd (false≢true (sym c.if-have.false ∙ c.have.ensures.1 top))
    | inr at ↦ absurd (c.places.invariant at.0 (omega (arith, at.1, c.places-test.false)) at.2)
  ],
)
