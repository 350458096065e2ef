-- What Git says of a path in a work tree: what lies below an ignored folder is ignored with it.
use Rattle.std.specs.Prelude.{◌≡◌, ◌⊎◌, ℕ, Bool, true, false, List, ◌∷◌, ◌++◌, Option, Some, slice_get}
use Rattle.glob_lists.specs.declared.rules.Rules.{Rules}
use Rattle.gix_glob.specs.Bytes.{slash}
use Rattle.gix_glob.specs.Entries.{Entry}
use Rattle.gix_glob.specs.EntryLists.{EntryList}
use Rattle.gix_glob.specs.Patterns.{is_negative}
use Rattle.glob_lists.specs.Deciding.{Decides}

-- a folder above a path: what stands before one of its slashes
abbrev pub IsAbove : List ℕ → List ℕ → Type 0
IsAbove folder path = (below : List ℕ) × (path ≡ folder ++ slash ∷ below)

-- the pattern at this pair of places isn't negative
pub record IsPositiveAt {V : Type 0} (lists : List (EntryList V)) (pair : ℕ × ℕ) : Type 0 where
  pub list : EntryList V
  pub of_lists : slice_get lists pair.0 ≡ Some list
  pub entry : Entry V
  pub of_list : slice_get list.entries pair.1 ≡ Some entry
  pub positive : is_negative entry.mode ≡ false

-- the pattern at this pair ignores the folder: it decides about it, as a directory, and isn't negative
abbrev pub Ignores : {V : Type 0} → List (EntryList V) → Rules → List ℕ → (ℕ × ℕ) → Type 0
Ignores lists rules folder pair = Decides lists folder true rules (Some pair) × IsPositiveAt lists pair

-- no folder above the path is ignored
abbrev pub HasNoneIgnored : {V : Type 0} → List (EntryList V) → Rules → List ℕ → Type 0
HasNoneIgnored lists rules path = (folder : List ℕ) (pair : ℕ × ℕ) → IsAbove folder path → ¬ Ignores lists rules folder pair

-- the pattern at this pair ignores the topmost ignored folder above the path
pub record IsBelowIgnored {V : Type 0} (lists : List (EntryList V)) (rules : Rules) (path : List ℕ) (pair : ℕ × ℕ) : Type 0 where
  pub folder : List ℕ
  pub above : IsAbove folder path
  pub ignored : Ignores lists rules folder pair
  pub topmost : HasNoneIgnored lists rules folder

-- The pair that decides about a path in a work tree: the one that ignores the topmost ignored folder above it, and where none is
-- ignored, the one that decides about the path by itself.
abbrev pub DecidesInTree : {V : Type 0} → List (EntryList V) → List ℕ → Bool → Rules → Option (ℕ × ℕ) → Type 0
DecidesInTree lists path is_dir rules pair =
    ((by : ℕ × ℕ) × IsBelowIgnored lists rules path by × (pair ≡ Some by))
    ⊎ (HasNoneIgnored lists rules path × Decides lists path is_dir rules pair)
