-- Stacks of lists that ignore the same paths of a work tree.
use Rattle.std.specs.Prelude.{◌↔◌, ℕ, Bool, List, Option, IsSomeAnd}
use Rattle.glob_lists.specs.declared.rules.Rules.{Rules}
use Rattle.gix_glob.specs.EntryLists.{EntryList}
use Rattle.glob_trees.specs.Trees.{DecidesInTree, IsPositiveAt}
use Rattle.glob_lint.specs.Lines.{IsReal}
use Rattle.glob_lint.specs.Without.{AreAmong, lists_but}

module _ {V : Type 0} where
  -- what decides about a path ignores it: there is such a pair, and its pattern isn't negative
  abbrev pub Ignoring : List (EntryList V) → Option (ℕ × ℕ) → Type 0
  Ignoring lists pair = IsSomeAnd pair (IsPositiveAt lists)

  -- Each path of a work tree that the one stack of lists ignores the other one does, and the other way round. (One pair, or none, decides about
  -- a path by a stack: `decide_in_tree_by` answers it.)
  abbrev pub IgnoreAlike : Rules → List (EntryList V) → List (EntryList V) → Type 0
  IgnoreAlike rules old new = (path : List ℕ) (is_dir : Bool) (was is : Option (ℕ × ℕ)) → IsReal path
      → DecidesInTree old path is_dir rules was → DecidesInTree new path is_dir rules is → (Ignoring old was) ↔ (Ignoring new is)

  -- whichever of these lines are taken out, the same paths are ignored
  abbrev pub AreRemovable : Rules → List (EntryList V) → List (ℕ × ℕ) → Type 0
  AreRemovable rules lists pairs = (gone : List (ℕ × ℕ)) → AreAmong gone pairs → IgnoreAlike rules lists (lists_but gone 0 lists)
