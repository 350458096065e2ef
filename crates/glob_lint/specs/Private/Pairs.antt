-- The line at a pair of places.
use Rattle.std.specs.Prelude.{◌≡◌, ℕ, List}
use Rattle.gix_glob.specs.Entries.{Entry}
use Rattle.gix_glob.specs.EntryLists.{EntryList}
use Rattle.glob_lists.specs.Deciding.{IsEntryAt}
use Rattle.glob_lint.specs.Lines.{LineParts, line_of}

-- it is the line of the entry that stands there
pub record IsLineAt {V : Type 0} (lists : List (EntryList V)) (pair : ℕ × ℕ) (line : LineParts) : Type 0 where
  pub entry : Entry V
  pub at : IsEntryAt lists pair entry
  pub is : line ≡ line_of at.list entry
