-- How many entries lists have: one list more.
use Rattle.std.proofs.Common.{◌≡◌, ℕ, ◌+◌, List, length, take, Some, ◌∙◌, ap}
use Rattle.std.specs.Prelude.{slice_get}
use Rattle.std.proofs.lemmas.List.Sums.{sum_by_more}
use Rattle.std.proofs.lemmas.Option.{get_or_from_slice_get, slice_get_within}
use Rattle.gix_glob.specs.EntryLists.{EntryList}
use Rattle.glob_lists.specs.Matches.{entry_count}

module _ {V : Type 0} (lists : List (EntryList V)) (i : ℕ) (list : EntryList V) (there : slice_get lists i ≡ Some list) where
  pub entry_count-more : entry_count (take (i + 1) lists) ≡ entry_count (take i lists) + length list.entries
  entry_count-more =
      sum_by_more (λ (l : EntryList V). length l.entries) lists i list (slice_get_within lists i list there)
      ∙ ap (λ (l : EntryList V). entry_count (take i lists) + length l.entries) (get_or_from_slice_get lists i list list there)
