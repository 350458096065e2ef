-- What an assignment puts in is left in place of it.
use Rattle.std.proofs.Common.{◌≡◌, ◌∷◌, [], false, length, map, replicate, reverse, ap, sym, subst, ◌∙◌, arith}
use Rattle.std.specs.Vec.{vec_items}
use Rattle.std.proofs.lemmas.List.{append-nil, map_push, reverse-append, with_items_is}
use Rattle.glob_attributes.specs.Views.{assignment_with}
use Rattle.glob_attributes.specs.Private.Filling.{AreMarked, seen_entry}
use Rattle.glob_attributes.specs.States.{IsFilledIn}
use Rattle.glob_attributes.proofs.lemmas.FillingLemmas.{empty_items, filled-more, marked-new, reverse_map_push}
use Rattle.glob_attributes.proofs.filling.fill_in.Goals as goal

pub left-init : goal.left-init
left-init c =
    let macros = c.args.macros.now in
    let marks : c.in_ok-marks.marks.items ≡ replicate (length macros) false = c.in_ok-marks.ensures ∙ ap (λ n. replicate n false) c.len.ensures in
    record {
      marked = subst (λ told. AreMarked macros (reverse (map seen_entry told)) c.in_ok-marks.marks.items) (sym c.in_ok-filled.ensures.items)
          (subst (AreMarked macros []) (sym marks) (marked-new macros));
      filled_in = rw c.in_ok-filled.ensures.items (λ more h. h);
    }

pub left-preserved : goal.left-preserved
left-preserved c =
    let macros = c.args.macros.now in
    let a = seen_entry c.in-Some.assignment in
    let told = map seen_entry c.left.filled.items in
    let rest = reverse (map seen_entry c.pop.new.self.items) in
    let grown = ap (map seen_entry) c.in_ok-push.ensures.items ∙ map_push seen_entry c.left.filled.items c.in-Some.assignment in
    let taken = ap (λ l. reverse (map seen_entry l)) c.in-Some.ensures.items ∙ reverse_map_push seen_entry c.pop.new.self.items c.in-Some.assignment in
    let added = ap reverse c.in_ok-push_each.ensures ∙ reverse-append (map seen_entry c.pop.new.self.items) (map (assignment_with vec_items) c.put_in.result.now) in
    let before : AreMarked macros (reverse told) c.deref_mut.result.now = rw c.deref_mut.ensures.value c.left.invariant.marked in
    let put = c.put_in.ensures.put_in (reverse told) before in
    let turned : reverse (map seen_entry c.push.new.self.items) ≡ a ∷ reverse told = ap reverse grown ∙ reverse-append told (a ∷ []) in
    let marks = with_items_is c.left.marks c.put_in.new.marks (omega (arith, c.put_in.ensures.count, c.deref_mut.ensures.len)) in
    record {
      marked = rw (marks, turned) (c.put_in.ensures.marked (reverse told) before);
      filled_in = filled-more macros (reverse (map seen_entry c.args.row.items)) rest told (map seen_entry c.push.new.self.items) (reverse (map seen_entry c.left.left.items))
          (reverse (map seen_entry c.push_each.new.row.items)) a (reverse (map (assignment_with vec_items) c.put_in.result.now)) grown taken added put c.left.invariant.filled_in;
    }

pub returns : goal.returns
returns c =
    let none : c.left.left.items ≡ [] = empty_items c.left.left.items (omega (arith, c.in_default.ensures.cases)) in
    let all = c.left.invariant.filled_in [] (ap (λ l. reverse (map seen_entry l)) none) in
    subst (IsFilledIn c.args.macros.now [] (reverse (map seen_entry c.args.row.items))) (append-nil (map seen_entry c.left.filled.items)) all
