-- Each list has its rows.
use Rattle.std.proofs.Common.{◌≡◌, inl, inr, List, [], ◌∷◌, ◌∙◌, Some, ap, length, length-append, map, sym, subst, arith}
use Rattle.std.specs.Prelude.{slice_get}
use Rattle.std.proofs.lemmas.List.{length-map}
use Rattle.std.proofs.lemmas.Option.{same_Some}
use Rattle.gix_glob.specs.EntryLists.{EntryList, entry_list_of}
use Rattle.gix_glob.proofs.lemmas.Elements.{slice_get-map_at}
use Rattle.glob_lists.specs.declared.list.rows.ListRows.{ListRows}
use Rattle.glob_lists.specs.Private.Lists.Prepared.{AreRowsOf}
use Rattle.glob_lists.proofs.lemmas.Elements.{slice_get-push_cases}
use Rattle.glob_lists.proofs.stack.lists.PreparedLists.of.Goals as goal

pub lists-preserved : goal.lists-preserved
lists-preserved g c =
    let lists = map (entry_list_of g.T.Pattern.seen) c.args.lists.now in
    let its = c.in_ok-its.its in
    let held = entry_list_of g.T.Pattern.seen c.index-lists-i.result in
    let there = slice_get-map_at (entry_list_of g.T.Pattern.seen) c.args.lists.now c.lists.i c.index-lists-i.result c.lists-test.true c.index-lists-i.is in
    record {
      many = omega (arith, ap length c.in_ok-push.ensures.items, length-append c.lists.rows.items (its ∷ []), c.lists.invariant.many);
      each = λ k list other got_list got. elim (slice_get-push_cases c.lists.rows.items its k other (subst (λ (l : List ListRows). slice_get l k ≡ Some other) c.in_ok-push.ensures.items got)) [
        | inl old ↦ c.lists.invariant.each k list other got_list old
        | inr new ↦
            (let place : k ≡ c.lists.i = new.0 ∙ c.lists.invariant.many in
            let is : held ≡ list = same_Some held list (sym there ∙ (ap (slice_get lists) (sym place) ∙ got_list)) in
            subst (λ (r : ListRows). AreRowsOf list r) (sym new.1) (subst (λ (l : EntryList g.T.Pattern.Seen). AreRowsOf l its) is c.in_ok-its.ensures))
      ];
    }

pub invariant_of-result : goal.invariant_of-result
invariant_of-result g c =
    let long = length-map c.args.lists.now (entry_list_of g.T.Pattern.seen) in record {
      folders = c.requires.folders;
      many = omega (arith, c.lists.invariant.many, c.lists-test.false, c.lists.auto.i-end);
      each = c.lists.invariant.each;
    }
