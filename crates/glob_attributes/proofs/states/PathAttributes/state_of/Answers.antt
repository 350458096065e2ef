-- One that names the attribute decides; another one doesn't.
use Rattle.std.proofs.Common.{◌≡◌, map, true, false, Some, ap, sym, subst, ◌∙◌}
use Rattle.std.specs.Prelude.{slice_get}
use Rattle.std.specs.Str.{bytes_eq}
use Rattle.gix_glob.proofs.lemmas.Elements.{slice_get-map_at}
use Rattle.glob_attributes.specs.Private.Filling.{seen_entry}
use Rattle.glob_attributes.proofs.lemmas.FillingLemmas.{state_in-at}
use Rattle.glob_attributes.proofs.states.PathAttributes.state_of.Goals as goal

pub returns-then-eq : goal.returns-then-eq
returns-then-eq c =
    let seen : map seen_entry c.deref-assignment-items.result.now ≡ c.args.self.now = ap (map seen_entry) c.deref-assignment-items.ensures.value ∙ c.self.view_is in
    let there : slice_get c.args.self.now c.loop-assignment.assignment-index ≡ Some (seen_entry c.assignment-item.result) =
    subst (λ l. slice_get l c.loop-assignment.assignment-index ≡ Some (seen_entry c.assignment-item.result)) seen
    (slice_get-map_at seen_entry c.deref-assignment-items.result.now c.loop-assignment.assignment-index c.assignment-item.result c.loop-assignment-test.true c.assignment-item.is) in
    let named : bytes_eq c.assignment-item.result.now.name.items c.args.name.now ≡ true = ap (λ n. bytes_eq n c.args.name.now) (sym c.deref.ensures.value) ∙ sym c.eq.ensures ∙ c.if-eq.true in
    c.borrowed.ensures ∙ sym (c.loop-assignment.invariant ∙ state_in-at c.args.self.now c.loop-assignment.assignment-index (seen_entry c.assignment-item.result) c.args.name.now true there named)

pub loop-assignment-preserved : goal.loop-assignment-preserved
loop-assignment-preserved c =
    let seen : map seen_entry c.deref-assignment-items.result.now ≡ c.args.self.now = ap (map seen_entry) c.deref-assignment-items.ensures.value ∙ c.self.view_is in
    let there : slice_get c.args.self.now c.loop-assignment.assignment-index ≡ Some (seen_entry c.assignment-item.result) =
    subst (λ l. slice_get l c.loop-assignment.assignment-index ≡ Some (seen_entry c.assignment-item.result)) seen
    (slice_get-map_at seen_entry c.deref-assignment-items.result.now c.loop-assignment.assignment-index c.assignment-item.result c.loop-assignment-test.true c.assignment-item.is) in
    let other : bytes_eq c.assignment-item.result.now.name.items c.args.name.now ≡ false = ap (λ n. bytes_eq n c.args.name.now) (sym c.deref.ensures.value) ∙ sym c.eq.ensures ∙ c.if-eq.false in
    c.loop-assignment.invariant ∙ state_in-at c.args.self.now c.loop-assignment.assignment-index (seen_entry c.assignment-item.result) c.args.name.now false there other
