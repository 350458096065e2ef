use Rattle.std.proofs.Common.{◌≡◌, ◌≤◌, length}
use Rattle.glob_lists.specs.Private.Asks.Showing.{Lacks}
use Rattle.glob_lists.specs.Private.Lists.Chains.{AreChained, IsLastBelow, chains_of}
use Rattle.glob_lists.specs.Private.Lists.Walking.{next_of}
use Rattle.glob_lists.proofs.lemmas.Lists.WalkLemmas.{IsBegun}
use Rattle.glob_lists.proofs.list.walk.Walk.begin.Given as goal

-- the chains of the ends that are shorter than so many bytes were added
abbrev pub invariant-lengths : goal.invariant-lengths
invariant-lengths l = record {
  few : l.self.count ≤ l.n;
  wide : length l.self.nexts ≡ 8;
  latest : l.self.latest ≡ 0;
  all : l.self.passed_from ≡ length l.rows;
  none : l.self.count ≡ 0 → next_of l.self 0 ≡ 0;
  below : l.self.other.0 ≤ length l.rows;
  lacking : Lacks l.probe l.self.lacking;
  other : AreChained l.rows l.heads → IsLastBelow (chains_of (length l.heads) l.rows) 0 (length l.rows) l.self.other;
  begun : AreChained l.rows l.heads → IsBegun (chains_of (length l.heads) l.rows) (length l.heads) l.probe.end l.n l.self;
}
