use Rattle.std.proofs.Common.{◌≡◌, length, map, take}
use Rattle.glob_lists.specs.Private.Lists.Chains.{AreChained}
use Rattle.glob_lists.proofs.lemmas.Lists.RowLemmas.{AskInOrder}
use Rattle.glob_lists.proofs.prepared.prepare.Given as goal

-- the patterns so far have their rows, and these are chained
abbrev pub invariant-patterns : goal.invariant-patterns
invariant-patterns g l = record {
  long : length l.rows ≡ length l.fn.rows;
  asked : AskInOrder (map g.P.Viewed.seen l.patterns) (take l.i l.rows);
  chained : AreChained (take l.i l.rows) l.heads.links;
}
