-- Whether a path is ignored, by a stack of lists, as Git reads their patterns.
use Rattle.std.specs.Prelude.{ℕ, Bool, List, Some}
use Rattle.gix_glob.specs.declared.pattern.Case.{Case}
use Rattle.gix_glob.specs.EntryLists.{EntryList}
use Rattle.glob_lists.specs.Deciding.{Decides}
use Rattle.glob_lists.specs.Rules.{by_git}
use Rattle.glob_trees.specs.Trees.{IsPositiveAt}

-- the path is ignored: the pattern that decides about it isn't negative
abbrev pub IsIgnored : {V : Type 0} → List (EntryList V) → Case → List ℕ → Bool → Type 0
IsIgnored lists case path is_dir = (pair : ℕ × ℕ) × Decides lists path is_dir (by_git case) (Some pair) × IsPositiveAt lists pair
