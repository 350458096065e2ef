-- What is asked of changed lists.
use Rattle.std.specs.Prelude.{◌≡◌, ℕ, List, ◌++◌, Some, slice_get, slice_set}
use Rattle.glob_lists.specs.declared.rules.Rules.{Rules}
use Rattle.gix_glob.specs.Entries.{Entry}
use Rattle.gix_glob.specs.EntryLists.{EntryList}
use Rattle.glob_lists.specs.Paths.{Path}
use Rattle.glob_explain.specs.declared.cause.Cause.{Cause}
use Rattle.glob_explain.specs.Causes.{IsCause}
use Rattle.glob_explain.specs.Trying.{with_entries}

-- it is the cause with this entry in the place of the one at the pair
pub record AsksExchanged (lists : List (EntryList (Unit {0}))) (rules : Rules) (path : Path) (pair : ℕ × ℕ) (entry : Entry (Unit {0})) (cause : Cause) : Type 0 where
  pub list : EntryList (Unit {0})
  pub there : slice_get lists pair.0 ≡ Some list
  pub is : IsCause (slice_set lists pair.0 (with_entries list (slice_set list.entries pair.1 entry))) rules path cause

-- it is the cause with these entries behind those of the list at place i
pub record AsksGrown (lists : List (EntryList (Unit {0}))) (rules : Rules) (path : Path) (i : ℕ) (more : List (Entry (Unit {0}))) (cause : Cause) : Type 0 where
  pub list : EntryList (Unit {0})
  pub there : slice_get lists i ≡ Some list
  pub is : IsCause (slice_set lists i (with_entries list (list.entries ++ more))) rules path cause
