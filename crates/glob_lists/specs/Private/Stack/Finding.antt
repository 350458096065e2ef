-- What prepared lists answer for a path, from the last one to the first, and what it takes to find that.
use Rattle.std.specs.Prelude.{◌≡◌, ◌⊎◌, ℕ, ◌<◌, ◌≤◌, List, Some, length, slice_get}
use Rattle.glob_lists.specs.declared.rules.Rules.{Rules}
use Rattle.gix_glob.specs.EntryLists.{EntryList}
use Rattle.gix_glob.specs.Steps.{Counts}
use Rattle.glob_lists.specs.Deciding.{PairAnswers}
use Rattle.glob_lists.specs.Matches.{ComesBefore}
use Rattle.glob_lists.specs.Paths.{Path}
use Rattle.glob_lists.specs.Private.Asked.{SpendsOnAllWith}
use Rattle.glob_lists.specs.Private.Lists.Answering.{Spends}

-- the counts rose by at most what the list at place i may take, and a look for each of its rows, v being the length of the path
abbrev pub SpendsOnList : {V : Type 0} → List (EntryList V) → ℕ → ℕ → Counts → Counts → Type 0
SpendsOnList {V} lists i v before after = (list : EntryList V) → slice_get lists i ≡ Some list → Spends list v before after

-- the counts rose by at most what all lists may take, and a look for each of their rows
abbrev pub SpendsOnAll : {V : Type 0} → List (EntryList V) → ℕ → Counts → Counts → Type 0
SpendsOnAll lists v before after = SpendsOnAllWith lists (λ list. length list.entries) v before after

-- the pair (i, m) is the pair (j, n), or comes after it: lists first
abbrev pub IsFrom : ℕ → ℕ → ℕ → ℕ → Type 0
IsFrom j n i m = (j < i) ⊎ ((j ≡ i) × (n ≤ m))

-- The pairs from (j, n) on that answer, each of them once, from the last one to the first.
pub record AreFoundFrom {V : Type 0} (lists : List (EntryList V)) (path : Path) (rules : Rules) (j n : ℕ) (found : List (ℕ × ℕ)) : Type 0 where
  pub each : (x : ℕ) (pair : ℕ × ℕ) → slice_get found x ≡ Some pair → PairAnswers lists path.bytes path.is_dir rules pair.0 pair.1
  pub from : (x : ℕ) (pair : ℕ × ℕ) → slice_get found x ≡ Some pair → IsFrom j n pair.0 pair.1
  pub falling : (x y : ℕ) (a b : ℕ × ℕ) → x < y → slice_get found x ≡ Some a → slice_get found y ≡ Some b → ComesBefore b.0 b.1 a.0 a.1
  pub all : (i m : ℕ) → PairAnswers lists path.bytes path.is_dir rules i m → IsFrom j n i m → (x : ℕ) × (slice_get found x ≡ Some (i, m))
