use Rattle.std.proofs.Common.{◌≡◌, map, take}
use Rattle.glob_attributes.specs.Views.{seen_assignments}
use Rattle.glob_attributes.specs.Told.{with_names}
use Rattle.glob_attributes.proofs.names.AttributeNames.add_each.Given as goal

-- the names of the assignments so far were added
abbrev pub invariant-loop-assignment : goal.invariant-loop-assignment
invariant-loop-assignment l =
    l.self ≡ with_names l.fn.self (take l.assignment-index (map (λ assigned. assigned.name) (seen_assignments l.assignments)))
