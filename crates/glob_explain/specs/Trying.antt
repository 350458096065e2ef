-- Which lines turn whether a path is ignored.
use Rattle.std.specs.Prelude.{◌≡◌, ℕ, not, List, [], ◌∷◌, ◌++◌, false, Some, slice_get, slice_set}
use Rattle.glob_lists.specs.declared.rules.Rules.{Rules}
use Rattle.gix_glob.specs.Entries.{Entry}
use Rattle.gix_glob.specs.EntryLists.{EntryList}
use Rattle.glob_lines.specs.Equations.GitLines.{git_entries_of}
use Rattle.glob_lists.specs.Paths.{Path}
use Rattle.glob_explain.specs.declared.cause.Cause.{Cause}
use Rattle.glob_explain.specs.Causes.{IsCause, ignores}

-- the list with other entries
abbrev pub with_entries : {V : Type 0} → EntryList V → List (Entry V) → EntryList V
with_entries list entries = record { entries = entries; source = list.source; base = list.base }

-- By the lists as they are the path is ignored or not, and it is the other way round once the line at the pair is this one.
pub record Turns (lists : List (EntryList (Unit {0}))) (rules : Rules) (path : Path) (pair : ℕ × ℕ) (line : List ℕ) : Type 0 where
  pub list : EntryList (Unit {0})
  pub there : slice_get lists pair.0 ≡ Some list
  pub entry : Entry (Unit {0})
  pub read : git_entries_of line ≡ entry ∷ []
  pub before : Cause
  pub was : IsCause lists rules path before
  pub after : Cause
  pub is : IsCause (slice_set lists pair.0 (with_entries list (slice_set list.entries pair.1 entry))) rules path after
  pub turned : ignores after ≡ not (ignores before)

-- With these lines behind the last one of the list at place i, the path isn't ignored.
pub record Keeps (lists : List (EntryList (Unit {0}))) (rules : Rules) (path : Path) (i : ℕ) (lines : List ℕ) : Type 0 where
  pub list : EntryList (Unit {0})
  pub there : slice_get lists i ≡ Some list
  pub after : Cause
  pub is : IsCause (slice_set lists i (with_entries list (list.entries ++ git_entries_of lines))) rules path after
  pub kept : ignores after ≡ false
