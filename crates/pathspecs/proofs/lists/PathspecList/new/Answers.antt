use Rattle.std.proofs.Common.{◌≡◌, [], ◌∷◌, ◌++◌, ◌+◌, ℕ, List, Global, Vec, length, map, ap, sym, subst, ◌∙◌, false, true}
use Rattle.std.specs.Vec.{vec_items}
use Rattle.std.proofs.lemmas.List.{map_push}
use Rattle.pathspecs.specs.Elements.{PathspecItem}
use Rattle.pathspecs.specs.Private.Asking.{AreParted, is_plain}
use Rattle.pathspecs.proofs.lemmas.PartingLemmas.{all_parted, one_more_place, one_more_text}
use Rattle.pathspecs.proofs.lists.PathspecList.new.Goals as goal
use Rattle.pathspecs.proofs.lists.PathspecList.new.Goals.{then-is_plain+in_ok-from_slice+in_ok-push, else-is_plain+in_ok-push-2}

pub elements-preserved : goal.elements-preserved
elements-preserved c =
    let items = c.deref-element-items.result.now in
    let texts = map vec_items c.elements.texts.items in
    let item = c.element-item.result in
    elim c.if-is_plain.branch [
      | then-is_plain+in_ok-from_slice+in_ok-push w ↦
          let plain : is_plain item ≡ true = sym c.is_plain.ensures ∙ w.if-is_plain.true in
          let more : map vec_items c.if-is_plain.texts.items ≡ texts ++ item.text ∷ [] =
          ap (λ (v : Vec (Vec ℕ Global) Global). map vec_items v.items) w.texts-is ∙ ap (map vec_items) w.in_ok-push.ensures.items ∙ map_push vec_items c.elements.texts.items w.in_ok-from_slice.field-0
          ∙ ap (λ t. texts ++ t ∷ []) (w.in_ok-from_slice.ensures.items ∙ w.text.ensures) in
          let same : c.if-is_plain.others.items ≡ c.elements.others.items = ap (λ (v : Vec ℕ Global). v.items) w.others-is in
          subst (λ (ts : List (List ℕ)). AreParted items (c.elements.place + 1) ts c.if-is_plain.others.items) (sym more)
          (subst (λ (ps : List ℕ). AreParted items (c.elements.place + 1) (texts ++ item.text ∷ []) ps) (sym same)
          (one_more_text items c.elements.place texts c.elements.others.items c.elements.invariant item c.elements-test.true c.element-item.is plain))
      | else-is_plain+in_ok-push-2 w ↦
          let other : is_plain item ≡ false = sym c.is_plain.ensures ∙ w.if-is_plain.false in
          let same : c.if-is_plain.texts.items ≡ c.elements.texts.items = ap (λ (v : Vec (Vec ℕ Global) Global). v.items) w.texts-is in
          let more : c.if-is_plain.others.items ≡ c.elements.others.items ++ c.elements.place ∷ [] = ap (λ (v : Vec ℕ Global). v.items) w.others-is ∙ w.in_ok-push-2.ensures.items in
          subst (λ (ts : List (List ℕ)). AreParted items (c.elements.place + 1) ts c.if-is_plain.others.items) (sym (ap (map vec_items) same))
          (subst (λ (ps : List ℕ). AreParted items (c.elements.place + 1) texts ps) (sym more)
          (one_more_place items c.elements.place texts c.elements.others.items c.elements.invariant item c.elements-test.true c.element-item.is other))
    ]

pub invariant_of-result : goal.invariant_of-result
invariant_of-result c =
    subst (λ (items : List PathspecItem). AreParted items (length items) c.new-texts-2.result c.elements.others.items) c.deref-element-items.ensures.value
    (all_parted c.deref-element-items.result.now c.elements.place (map vec_items c.elements.texts.items) c.new-texts-2.result c.elements.others.items c.elements-test.false c.elements.invariant c.new-texts-2.ensures)
