-- All that matches a path, by lists in order and the rules by which their patterns are matched.
use Rattle.std.specs.Prelude.{◌≡◌, ◌⊎◌, ℕ, ◌<◌, Bool, List, Some, length, slice_get}
use Rattle.std.specs.List.{sum_by}
use Rattle.glob_lists.specs.declared.rules.Rules.{Rules}
use Rattle.gix_glob.specs.declared.search.pattern.list.List as patterns
use Rattle.glob_lists.specs.Deciding.{PairAnswers}
use Rattle.gix_glob.specs.EntryLists.{EntryList}

-- lists, and the rules by which their patterns are matched
pub record RuledLists (T X : Type 0) : Type 0 where
  pub lists : List (patterns.List T X)
  pub rules : Rules

-- how many entries the lists have
abbrev pub entry_count : {V : Type 0} → List (EntryList V) → ℕ
entry_count lists = sum_by (λ list. length list.entries) lists

-- the place (i, m) comes before the place (j, n): lists first
abbrev pub ComesBefore : ℕ → ℕ → ℕ → ℕ → Type 0
ComesBefore i m j n = (i < j) ⊎ ((i ≡ j) × (m < n))

-- The pairs of places that answer, each of them once, in order.
pub record AreMatches {V : Type 0} (lists : List (EntryList V)) (path : List ℕ) (is_dir : Bool) (rules : Rules) (found : List (ℕ × ℕ)) : Type 0 where
  pub each : (x : ℕ) (pair : ℕ × ℕ) → slice_get found x ≡ Some pair → PairAnswers lists path is_dir rules pair.0 pair.1
  pub rising : (x y : ℕ) (a b : ℕ × ℕ) → x < y → slice_get found x ≡ Some a → slice_get found y ≡ Some b → ComesBefore a.0 a.1 b.0 b.1
  pub all : (i m : ℕ) → PairAnswers lists path is_dir rules i m → (x : ℕ) × (slice_get found x ≡ Some (i, m))
