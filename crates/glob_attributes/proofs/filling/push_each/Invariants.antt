use Rattle.std.proofs.Common.{◌≡◌, ◌++◌, map, take}
use Rattle.std.specs.Vec.{vec_items}
use Rattle.glob_attributes.specs.Views.{assignment_with}
use Rattle.glob_attributes.specs.Private.Filling.{seen_entry}
use Rattle.glob_attributes.proofs.filling.push_each.Given as goal

-- those so far were added
abbrev pub invariant-loop-assignment : goal.invariant-loop-assignment
invariant-loop-assignment l =
    map seen_entry l.row.items ≡ map seen_entry l.fn.row.items ++ map (assignment_with vec_items) (take l.assignment-index l.assignments)
