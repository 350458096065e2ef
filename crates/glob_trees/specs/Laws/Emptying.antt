-- Lists of which one says nothing.
use Rattle.std.specs.Prelude.{◌≡◌, ℕ, List, [], ◌∷◌, ◌++◌, Some}
use Rattle.gix_glob.specs.EntryLists.{EntryList}

-- the second lists are the first ones, but that one list with this base has lost its entries
pub record EmptiesList {V : Type 0} (lists : List (EntryList V)) (base : List ℕ) (emptied : List (EntryList V)) : Type 0 where
  pub before : List (EntryList V)
  pub list : EntryList V
  pub after : List (EntryList V)
  pub joined : lists ≡ before ++ list ∷ after
  pub based : list.base ≡ Some base
  pub left : emptied ≡ before ++ (record { entries = []; source = list.source; base = list.base }) ∷ after
