use Rattle.std.proofs.Common.{◌≡◌, ◌<◌, length, map}
use Rattle.gix_glob.specs.Entries.{entry_of}
use Rattle.glob_lists.specs.Private.Lists.Chains.{AreChained}
use Rattle.glob_lists.proofs.lemmas.Lists.RowLemmas.{AskInOrder}
use Rattle.glob_lists.proofs.list.rows.rows_of.Given as goal

-- each mapping so far has its row, and the rows are chained
abbrev pub invariant-mappings : goal.invariant-mappings
invariant-mappings g l = record {
  many : length l.rows.items ≡ l.m;
  each : AskInOrder (map (entry_of g.T.Pattern.seen) l.list.patterns.items) l.rows.items;
  wide : length l.heads ≡ length l.fn.heads;
  chained : 1 < length l.fn.heads → AreChained l.rows.items l.heads;
}
