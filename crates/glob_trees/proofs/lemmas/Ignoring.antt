-- Whether a folder is ignored: what one pattern that decides about it tells.
use Rattle.std.proofs.Common.{◌≡◌, ℕ, true, false, List, None, Some, sym, ap, subst, ◌∙◌}
use Rattle.std.specs.Prelude.{slice_get}
use Rattle.std.proofs.lemmas.Bool.{false≢true}
use Rattle.std.proofs.lemmas.Option.{same_Some}
use Rattle.glob_lists.specs.declared.rules.Rules.{Rules}
use Rattle.gix_glob.specs.Entries.{Entry}
use Rattle.gix_glob.specs.EntryLists.{EntryList}
use Rattle.gix_glob.specs.Patterns.{is_negative}
use Rattle.glob_lists.specs.Deciding.{Decides}
use Rattle.glob_trees.specs.Trees.{Ignores, IsPositiveAt}
use Rattle.glob_trees.proofs.lemmas.InTree.{DecidesOnePair}

module _ {V : Type 0} (lists : List (EntryList V)) (rules : Rules) (folder : List ℕ) where
  pub none_ignores : Decides lists folder true rules None → (pair : ℕ × ℕ) → ¬ Ignores lists rules folder pair
  none_ignores none pair h = let answers = h.0.answers in none pair.0 pair.1 answers

  module _ (pair : ℕ × ℕ) (decides : Decides lists folder true rules (Some pair)) (list : EntryList V) (of_lists : slice_get lists pair.0 ≡ Some list) (entry : Entry V) (of_list : slice_get list.entries pair.1 ≡ Some entry) where
    pub positive_ignores : is_negative entry.mode ≡ false → Ignores lists rules folder pair
    positive_ignores positive = (decides, record { list = list; of_lists = of_lists; entry = entry; of_list = of_list; positive = positive })

    pub negative_keeps : DecidesOnePair V → is_negative entry.mode ≡ true → (other : ℕ × ℕ) → ¬ Ignores lists rules folder other
    negative_keeps law negative other h =
        let same : other ≡ pair = same_Some other pair (law lists folder true rules (Some other) (Some pair) h.0 decides) in
        let there : IsPositiveAt lists pair = subst (IsPositiveAt lists) same h.1 in
        let list_is : there.list ≡ list = same_Some there.list list (sym there.of_lists ∙ of_lists) in
        let entry_is : there.entry ≡ entry =
        same_Some there.entry entry (sym there.of_list ∙ ap (λ (l : EntryList V). slice_get l.entries pair.1) list_is ∙ of_list) in
        false≢true (sym there.positive ∙ ap (λ (e : Entry V). is_negative e.mode) entry_is ∙ negative)
