use Rattle.std.proofs.Common.{◌≡◌, ℕ, length, map, Some}
use Rattle.std.specs.Prelude.{slice_get}
use Rattle.gix_glob.specs.EntryLists.{EntryList, entry_list_of}
use Rattle.glob_lists.specs.declared.list.rows.ListRows.{ListRows}
use Rattle.glob_lists.specs.Private.Lists.Prepared.{AreRowsOf}
use Rattle.glob_lists.proofs.stack.lists.PreparedLists.of.Given as goal

-- each list so far has its rows
abbrev pub invariant-lists : goal.invariant-lists
invariant-lists g l = record {
  many : length l.rows.items ≡ l.i;
  each : (k : ℕ) (list : EntryList g.T.Pattern.Seen) (its : ListRows) → slice_get (map (entry_list_of g.T.Pattern.seen) l.lists) k ≡ Some list → slice_get l.rows.items k ≡ Some its → AreRowsOf list its;
}
