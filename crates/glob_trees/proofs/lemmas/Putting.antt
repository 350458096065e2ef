-- A known folder follows the others on the way, and the list that is kept of it the other lists.
use Rattle.std.proofs.Common.{◌≡◌, ℕ, zero, suc, Bool, true, false, List, [], ◌∷◌, ◌++◌, Option, None, Some, refl, sym, ap, subst, ◌∙◌, append-nil}
use Rattle.std.specs.Prelude.{is_some, slice_get, slice_set}
use Rattle.std.proofs.lemmas.Option.{same_Some}
use Rattle.glob_trees.specs.declared.on_way.FolderOnWay.{FolderOnWay}
use Rattle.glob_trees.specs.Private.Keeping.{PutsKept, TakesOut}

set_same : {X : Type 0} (xs : List X) (i : ℕ) (x : X) → slice_get xs i ≡ Some x → slice_set xs i x ≡ xs
set_same [] i x there = refl
set_same (y ∷ xs) zero x there = ap (λ z. z ∷ xs) (sym (same_Some y x there))
set_same (y ∷ xs) (suc i) x there = ap (λ l. y ∷ l) (set_same xs i x there)

none_held : {X : Type 0} (held : Option X) → is_some held ≡ false → held ≡ None
none_held None none = refl
none_held (Some x) none = absurd (cc)

module _ {L : Type 0} (place long : ℕ) (folders longer : List FolderOnWay) (lists : List L) (kept : List (Option L)) (held : Option L) (has_list : Bool)
    (there : slice_get kept place ≡ Some held) (has : has_list ≡ is_some held) (pushed : longer ≡ folders ++ (record { place = place; length = long; has_list = has_list }) ∷ []) where
  pub puts_kept : (more : List L) (less : List (Option L)) → TakesOut place lists more kept less → PutsKept place long folders longer lists more kept less
  puts_kept more less takes = record {
    takes = takes;
    way = pushed ∙ ap (λ b. folders ++ (record { place = place; length = long; has_list = b }) ∷ []) (has ∙ ap is_some (same_Some held takes.list (sym there ∙ takes.there)));
  }

  pub puts_none : has_list ≡ false → PutsKept place long folders longer lists lists kept kept
  puts_none none =
      let empty : held ≡ None = none_held held (sym has ∙ none) in
      let at : slice_get kept place ≡ Some None = there ∙ ap Some empty in
      puts_kept lists kept (record {
        list = None;
        there = at;
        taken = sym (set_same kept place None at);
        put = sym (append-nil lists);
      })
