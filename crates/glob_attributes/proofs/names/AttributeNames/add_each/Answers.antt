-- The name of one assignment more was added, or none after those before it.
use Rattle.std.proofs.Common.{◌≡◌, Some, length, map, option_map, ap, refl, sym, subst, ◌∙◌, ◌∷◌, [], List, ℕ, Vec, drop, take}
use Rattle.std.specs.Prelude.{slice_get}
use Rattle.std.specs.Vec.{vec_items}
use Rattle.std.specs.declared.alloc.Global.{Global}
use Rattle.std.proofs.lemmas.List.{take-append-drop}
use Rattle.std.proofs.lemmas.Option.{slice_get-map, slice_get_read}
use Rattle.byte_streams.proofs.lemmas.StreamLemmas.{on_any_err}
use Rattle.glob_attributes.specs.declared.assignment.Assignment.{Assignment}
use Rattle.glob_attributes.specs.Views.{assignment_with, seen_assignments}
use Rattle.glob_attributes.specs.Told.{with_names}
use Rattle.glob_attributes.proofs.lemmas.ToldLemmas.{some-here, with_names-one}
use Rattle.glob_attributes.proofs.names.AttributeNames.add_each.Goals as goal

abbrev see : Assignment (Vec ℕ Global) → Assignment (List ℕ)
see = assignment_with vec_items

abbrev name_of : Assignment (List ℕ) → List ℕ
name_of assigned = assigned.name

pub loop-assignment-preserved : goal.loop-assignment-preserved
loop-assignment-preserved c =
    let items = c.deref-assignment-items.result.now in
    let one = c.assignment-item.result in
    let i = c.loop-assignment.assignment-index in
    let item : slice_get items i ≡ Some one = slice_get_read items (length items) i one refl c.loop-assignment-test.true c.assignment-item.is in
    let there : slice_get (map name_of (map see items)) i ≡ Some one.name.items =
    slice_get-map name_of (map see items) i ∙ ap (option_map name_of) (slice_get-map see items i ∙ ap (option_map see) item) in
    let all : slice_get (map name_of (seen_assignments c.args.assignments.now)) i ≡ Some one.name.items =
    subst (λ l. slice_get (map name_of (map see l)) i ≡ Some one.name.items) c.deref-assignment-items.ensures.value there in
    with_names-one c.args.self.now c.loop-assignment.self c.add_name.new.self (map name_of (seen_assignments c.args.assignments.now)) i one.name.items all
    c.loop-assignment.invariant (c.in_ok-add_name.ensures.added ∙ ap (λ n. with_names c.loop-assignment.self (n ∷ [])) c.deref.ensures.value)

pub returns-in_err-add_name-clause-err : goal.returns-in_err-add_name-clause-err
returns-in_err-add_name-clause-err c =
    let all = map name_of (seen_assignments c.args.assignments.now) in
    let i = c.loop-assignment.assignment-index in
    on_any_err _ (some-here c.args.self.now all (drop i all) c.loop-assignment.self c.add_name.new.self
    (take i all, sym (take-append-drop i all), c.loop-assignment.invariant) c.in_err-add_name.ensures.err)
