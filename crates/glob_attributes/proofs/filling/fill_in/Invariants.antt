use Rattle.std.proofs.Common.{◌+◌, List, [], ◌++◌, length, map, reverse}
use Rattle.glob_attributes.specs.Private.Filling.{AreMarked, seen_entry, unmarked}
use Rattle.glob_attributes.specs.States.{Assigned, IsFilledIn}
use Rattle.glob_attributes.proofs.filling.fill_in.Given as goal

-- the marks tell whose names were met, and what fills in what is left, behind what was taken fills in the row
abbrev pub invariant-left : goal.invariant-left
invariant-left l = record {
  marked : AreMarked l.macros (reverse (map seen_entry l.filled.items)) l.marks.items;
  filled_in : (more : List Assigned) → IsFilledIn l.macros (reverse (map seen_entry l.filled.items)) (reverse (map seen_entry l.left.items)) more
      → IsFilledIn l.macros [] (reverse (map seen_entry l.fn.row.items)) (map seen_entry l.filled.items ++ more);
}

abbrev pub decreases-left : goal.decreases-left
decreases-left l = length l.left.items + unmarked l.macros l.marks.items
