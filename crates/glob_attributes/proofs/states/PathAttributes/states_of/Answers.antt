-- A name more: its state is added where it is specified.
use Rattle.std.proofs.Common.{◌≡◌, ◌∷◌, ◌++◌, ◌+◌, ◌∙◌, [], Some, map, take, ap, sym, true, false}
use Rattle.std.specs.Prelude.{slice_get}
use Rattle.std.specs.List.{take-map}
use Rattle.std.specs.Vec.{vec_items}
use Rattle.std.proofs.lemmas.List.{append-nil, map_push}
use Rattle.gix_glob.proofs.lemmas.Elements.{slice_get-map_at}
use Rattle.glob_attributes.specs.States.{state_in, states_in}
use Rattle.glob_attributes.specs.Views.{assignment_with, state_with}
use Rattle.glob_attributes.proofs.lemmas.StateLemmas.{states_in-more}
use Rattle.glob_attributes.proofs.states.PathAttributes.states_of.Goals.{else-is_specified, then-is_specified+in_ok-push}
use Rattle.glob_attributes.proofs.states.PathAttributes.states_of.Goals as goal

pub loop-name-preserved : goal.loop-name-preserved
loop-name-preserved c =
    let filled = c.args.self.now in
    let all = map vec_items c.args.names.now in
    let i = c.loop-name.name-index in
    let name = vec_items c.name-item.result in
    let state = state_with (λ bytes. bytes.now) c.state_by-state.result in
    let there : slice_get all i ≡ Some name = slice_get-map_at vec_items c.args.names.now i c.name-item.result c.loop-name-test.true c.name-item.is in
    let before : map (assignment_with (λ bytes. bytes.now)) c.loop-name.states.items ≡ states_in filled (take i all) =
    c.loop-name.invariant ∙ ap (states_in filled) (sym (take-map vec_items i c.args.names.now)) in
    let is : state ≡ state_in filled name = c.state_by-state.ensures ∙ ap (state_in filled) c.deref.ensures.value in
    let next : states_in filled (take (i + 1) all) ≡ states_in filled (map vec_items (take (i + 1) c.args.names.now)) = ap (states_in filled) (take-map vec_items (i + 1) c.args.names.now) in
    elim c.if-is_specified.branch [
      | then-is_specified+in_ok-push w ↦
          ap (λ v. map (assignment_with (λ bytes. bytes.now)) v.items) w.states-is
          ∙ ap (map (assignment_with (λ bytes. bytes.now))) w.in_ok-push.ensures.items
          ∙ map_push (assignment_with (λ bytes. bytes.now)) c.loop-name.states.items _
          ∙ ap (λ n. map (assignment_with (λ bytes. bytes.now)) c.loop-name.states.items ++ record { name = n; state = state } ∷ []) w.as_slice-name.ensures.value
          ∙ states_in-more filled _ all i name state true there before is (sym c.is_specified.ensures ∙ w.if-is_specified.true)
          ∙ next
      | else-is_specified w ↦
          ap (λ v. map (assignment_with (λ bytes. bytes.now)) v.items) w.states-is
          ∙ sym (append-nil (map (assignment_with (λ bytes. bytes.now)) c.loop-name.states.items))
          ∙ states_in-more filled _ all i name state false there before is (sym c.is_specified.ensures ∙ w.if-is_specified.false)
          ∙ next
    ]
