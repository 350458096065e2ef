-- The pairs that answer, as they are found from the first one on.
use Rattle.std.specs.Prelude.{◌≡◌, ℕ, ◌<◌, Bool, List, Some, slice_get}
use Rattle.glob_lists.specs.declared.rules.Rules.{Rules}
use Rattle.gix_glob.specs.EntryLists.{EntryList}
use Rattle.glob_lists.specs.Deciding.{PairAnswers}
use Rattle.glob_lists.specs.Matches.{ComesBefore}

-- The pairs before (j, n) that answer, each of them once, in order.
pub record AreMatchesUpTo {V : Type 0} (lists : List (EntryList V)) (path : List ℕ) (is_dir : Bool) (rules : Rules) (j n : ℕ) (found : List (ℕ × ℕ)) : Type 0 where
  pub each : (x : ℕ) (pair : ℕ × ℕ) → slice_get found x ≡ Some pair → PairAnswers lists path is_dir rules pair.0 pair.1
  pub before : (x : ℕ) (pair : ℕ × ℕ) → slice_get found x ≡ Some pair → ComesBefore pair.0 pair.1 j n
  pub rising : (x y : ℕ) (a b : ℕ × ℕ) → x < y → slice_get found x ≡ Some a → slice_get found y ≡ Some b → ComesBefore a.0 a.1 b.0 b.1
  pub all : (i m : ℕ) → PairAnswers lists path is_dir rules i m → ComesBefore i m j n → (x : ℕ) × (slice_get found x ≡ Some (i, m))
