-- The sign of the one line at a pair of places.
use Rattle.std.proofs.Common.{◌≡◌, ℕ, true, false, List, sym, ap, ◌∙◌}
use Rattle.std.specs.Prelude.{slice_get}
use Rattle.std.proofs.lemmas.Bool.{false≢true}
use Rattle.std.proofs.lemmas.Option.{same_Some}
use Rattle.gix_glob.specs.Entries.{Entry}
use Rattle.gix_glob.specs.EntryLists.{EntryList}
use Rattle.gix_glob.specs.Patterns.{is_negative}
use Rattle.glob_lists.specs.Deciding.{HasEntryAt}
use Rattle.glob_trees.specs.Trees.{IsPositiveAt}

module _ {V : Type 0} (lists : List (EntryList V)) (pair : ℕ × ℕ) (there : HasEntryAt lists pair) where
  pub positive_here : is_negative there.0.mode ≡ false → IsPositiveAt lists pair
  positive_here positive = record { list = there.1.list; of_lists = there.1.of_lists; entry = there.0; of_list = there.1.of_list; positive = positive }

  pub negative_here : is_negative there.0.mode ≡ true → ¬ IsPositiveAt lists pair
  negative_here negative other =
      let list_is : other.list ≡ there.1.list = same_Some other.list there.1.list (sym other.of_lists ∙ there.1.of_lists) in
      let entry_is : other.entry ≡ there.0 =
      same_Some other.entry there.0 (sym other.of_list ∙ ap (λ (l : EntryList V). slice_get l.entries pair.1) list_is ∙ there.1.of_list) in
      false≢true (sym other.positive ∙ ap (λ (e : Entry V). is_negative e.mode) entry_is ∙ negative)
