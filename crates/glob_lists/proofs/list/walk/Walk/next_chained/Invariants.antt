use Rattle.std.proofs.Common.{◌≡◌, ◌-◌, ◌≤◌, List, length}
use Rattle.glob_lists.specs.declared.link.Link.{Link}
use Rattle.glob_lists.specs.Private.Lists.Chains.{AreChained, chains_of}
use Rattle.glob_lists.specs.Private.Lists.Walking.{IsInside, IsWalk, NonePasses}
use Rattle.glob_lists.specs.Private.Looking.{LooksUpTo}
use Rattle.glob_lists.proofs.list.walk.Walk.next_chained.Given as goal

-- no row between where the walk is and where it began passes, if they are chained
abbrev pub invariant-chains : goal.invariant-chains
invariant-chains g l = record {
  inside : IsInside (length l.rows) l.self;
  wide : length l.self.nexts ≡ 8;
  other : l.self.other.0 ≤ l.self.passed_from;
  low : l.self.passed_from ≤ l.fn.self.passed_from;
  looks : LooksUpTo l.fn.counts l.counts (l.fn.self.passed_from - l.self.passed_from);
  walk : (heads : List Link) → AreChained l.rows heads → IsWalk (chains_of (length heads) l.rows) l.rows l.probe l.fn.self → IsWalk (chains_of (length heads) l.rows) l.rows l.probe l.self;
  none : (heads : List Link) → AreChained l.rows heads → IsWalk (chains_of (length heads) l.rows) l.rows l.probe l.fn.self → NonePasses l.rows l.probe l.self.passed_from l.fn.self.passed_from;
}

abbrev pub decreases-chains : goal.decreases-chains
decreases-chains g l = l.self.passed_from
