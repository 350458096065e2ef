use Rattle.std.proofs.Common.{◌≡◌, ◌-◌, ◌≤◌}
use Rattle.glob_lists.specs.Private.Looking.{LooksUpTo}
use Rattle.glob_lists.specs.Private.Lists.Walking.{NonePasses}
use Rattle.glob_lists.proofs.list.walk.Walk.next_in_turn.Given as goal

-- no row from here on passes, and a look was counted at each
abbrev pub invariant-rows : goal.invariant-rows
invariant-rows g l = record {
  same : l.self ≡ l.fn.self;
  low : l.end ≤ l.fn.self.passed_from;
  none : NonePasses l.rows l.probe l.end l.fn.self.passed_from;
  looks : LooksUpTo l.fn.counts l.counts (l.fn.self.passed_from - l.end);
}

abbrev pub decreases-rows : goal.decreases-rows
decreases-rows g l = l.end
