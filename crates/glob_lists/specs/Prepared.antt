-- Patterns that are prepared in memory which a caller keeps: a row for each, and the last row of each chain.
use Rattle.std.specs.Prelude.{◌≡◌, ℕ, List, Some, None, length, slice_get}
use Rattle.gix_glob.specs.Entries.{Entry}
use Rattle.gix_glob.specs.EntryLists.{EntryList}
use Rattle.gix_glob.specs.Patterns.{IsPattern}
use Rattle.glob_lists.specs.declared.prepared.Heads.{Heads}
use Rattle.glob_lists.specs.declared.asks.row.Row.{Row}
use Rattle.glob_lists.specs.Private.Asks.Rows.{Asks}
use Rattle.glob_lists.specs.Private.Lists.Chains.{AreChained}

-- the parts of the entry make a pattern
abbrev pub IsLawfulEntry : Entry (Unit {0}) → Type 0
IsLawfulEntry entry = IsPattern entry.text entry.mode entry.place

-- the entries as a list without a base
abbrev pub list_without_base : List (Entry (Unit {0})) → EntryList (Unit {0})
list_without_base entries = record { entries = entries; source = None; base = None }

-- The rows are those of the entries, in order, and each asks for what its entry does.
pub record AreAsked {V : Type 0} (entries : List (Entry V)) (rows : List Row) : Type 0 where
  pub many : length rows ≡ length entries
  pub each : (m : ℕ) (entry : Entry V) (row : Row) → slice_get entries m ≡ Some entry → slice_get rows m ≡ Some row → Asks entry.text entry.mode row

-- The rows are those of the entries, and chained from these heads on.
pub record ArePrepared {V : Type 0} (entries : List (Entry V)) (rows : List Row) (heads : Heads) : Type 0 where
  pub asked : AreAsked entries rows
  pub chained : AreChained rows heads.links
