-- Which pattern decides about the top of a work tree.
use Rattle.std.specs.Prelude.{◌≡◌, ◌⊎◌, ℕ, ◌<◌, ◌≤◌, false, IsTrue, List, [], slice_get, Option, Some, MatchOption}
use Rattle.gix_glob.specs.EntryLists.{EntryList}
use Rattle.gix_glob.specs.Patterns.{looks_at_name}
use Rattle.glob_lists.specs.declared.rules.Rules.{Rules}
use Rattle.glob_lists.specs.Deciding.{AnswersAt}

-- The entry at place m of the list answers for the top: it is one for names, and matches no bytes. One for folders alone doesn't.
pub record AnswersForTop {V : Type 0} (list : EntryList V) (rules : Rules) (m : ℕ) : Type 0 where
  pub answers : AnswersAt list [] false rules m
  pub name : IsTrue (looks_at_name answers.entry.mode)

-- the entry at place m of the list at place i does
pub record PairAnswersForTop {V : Type 0} (lists : List (EntryList V)) (rules : Rules) (i m : ℕ) : Type 0 where
  pub list : EntryList V
  pub there : slice_get lists i ≡ Some list
  pub answers : AnswersForTop list rules m

-- the entry of this pair of places does, and no later one does
pub record IsLastForTop {V : Type 0} (lists : List (EntryList V)) (rules : Rules) (pair : ℕ × ℕ) : Type 0 where
  pub answers : PairAnswersForTop lists rules pair.0 pair.1
  pub last : (i m : ℕ) → PairAnswersForTop lists rules i m → (i < pair.0) ⊎ ((i ≡ pair.0) × (m ≤ pair.1))

-- the pair that decides about the top, where there is one
abbrev pub DecidesForTop : {V : Type 0} → List (EntryList V) → Rules → Option (ℕ × ℕ) → Type 0
DecidesForTop lists rules pair = MatchOption pair ((i m : ℕ) → ¬ PairAnswersForTop lists rules i m) (IsLastForTop lists rules)
