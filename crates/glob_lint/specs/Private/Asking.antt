-- What is asked of lists about a path.
use Rattle.std.specs.Prelude.{◌≡◌, ◌↔◌, ◌<◌, ℕ, Bool, IsTrue, List, [], MatchOption, Option, Some, length, slice_get, unwrap_or}
use Rattle.std.specs.Option.{option_map_or}
use Rattle.glob_lists.specs.declared.rules.Rules.{Rules}
use Rattle.gix_glob.specs.EntryLists.{EntryList}
use Rattle.glob_lists.specs.Paths.{Path}
use Rattle.glob_trees.specs.Trees.{DecidesInTree, Ignores, IsAbove}
use Rattle.glob_lint.specs.Ignoring.{Ignoring}

-- the base of the list at a place; no bytes where it has none
abbrev pub base_at : {V : Type 0} → List (EntryList V) → ℕ → List ℕ
base_at lists at = option_map_or (λ list. unwrap_or list.base []) (slice_get lists at) []

-- no folder above the path that ends before the place is ignored
abbrev pub NoneIgnoredUpTo : {V : Type 0} → List (EntryList V) → Rules → List ℕ → ℕ → Type 0
NoneIgnoredUpTo lists rules path place = (folder : List ℕ) (by : ℕ × ℕ) → IsAbove folder path → length folder < place → ¬ Ignores lists rules folder by

module _ {V : Type 0} (lists : List (EntryList V)) (rules : Rules) (path : Path) where
  -- this pair of places, or none, decides about the path, and ignores it or not
  pub record DecidesSo (pair : Option (ℕ × ℕ)) (ignored : Bool) : Type 0 where
    pub decides : DecidesInTree lists path.bytes path.is_dir rules pair
    pub sign : IsTrue ignored ↔ Ignoring lists pair

  -- whether the path is ignored
  abbrev pub IsIgnored : Bool → Type 0
  IsIgnored ignored = (pair : Option (ℕ × ℕ)) × DecidesSo pair ignored

-- It is the last of the pairs that isn't this one. Where there is none, each of them is this one.
pub record IsLastOther (found : List (ℕ × ℕ)) (pair last : ℕ × ℕ) : Type 0 where
  pub place : ℕ
  pub at : slice_get found place ≡ Some last
  pub other : ¬ (last ≡ pair)
  pub behind : (x : ℕ) (by : ℕ × ℕ) → place < x → slice_get found x ≡ Some by → by ≡ pair

abbrev pub IsLastBut : List (ℕ × ℕ) → ℕ × ℕ → Option (ℕ × ℕ) → Type 0
IsLastBut found pair last = MatchOption last ((x : ℕ) (by : ℕ × ℕ) → slice_get found x ≡ Some by → by ≡ pair) (IsLastOther found pair)
