-- Lists that are asked about a path, each in turn: what one of them answers, and what that takes.
use Rattle.std.specs.Prelude.{◌≡◌, ℕ, ◌+◌, ◌≤◌, List, Option, MatchOption, Some, slice_get, sum_by}
use Rattle.glob_lists.specs.declared.rules.Rules.{Rules}
use Rattle.gix_glob.specs.EntryLists.{EntryList}
use Rattle.gix_glob.specs.Steps.{Counts, NeverFall}
use Rattle.glob_lists.specs.Deciding.{PairAnswers}
use Rattle.glob_lists.specs.DecisionLimits.{decision_look_limit, decision_step_limit, list_look_limit, list_step_limit}
use Rattle.glob_lists.specs.Paths.{Path}

-- the place of the last entry of the list at place i that answers, where there is one
abbrev pub IsLastOfList : {V : Type 0} → List (EntryList V) → Path → Rules → ℕ → Option ℕ → Type 0
IsLastOfList lists path rules i found =
    MatchOption found ((m : ℕ) → ¬ PairAnswers lists path.bytes path.is_dir rules i m)
    (λ last. PairAnswers lists path.bytes path.is_dir rules i last × ((m : ℕ) → PairAnswers lists path.bytes path.is_dir rules i m → m ≤ last))

-- The counts rose by at most what the list may take, v being the length of the path, and by so many looks more.
pub record SpendsWith {V : Type 0} (list : EntryList V) (more v : ℕ) (before after : Counts) : Type 0 where
  pub steps : after.steps ≤ before.steps + list_step_limit list v
  pub looks : after.looks ≤ before.looks + list_look_limit list v + more
  pub grows : NeverFall before after

-- the same of the list at place i, where `more` says how many looks more each list takes
abbrev pub SpendsOnListWith : {V : Type 0} → List (EntryList V) → (EntryList V → ℕ) → ℕ → ℕ → Counts → Counts → Type 0
SpendsOnListWith {V} lists more i v before after = (list : EntryList V) → slice_get lists i ≡ Some list → SpendsWith list (more list) v before after

-- The same of all lists.
pub record SpendsOnAllWith {V : Type 0} (lists : List (EntryList V)) (more : EntryList V → ℕ) (v : ℕ) (before after : Counts) : Type 0 where
  pub steps : after.steps ≤ before.steps + decision_step_limit lists v
  pub looks : after.looks ≤ before.looks + decision_look_limit lists v + sum_by more lists
  pub grows : NeverFall before after
