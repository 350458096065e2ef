use Rattle.std.proofs.Common.{◌≡◌, map, take}
use Rattle.std.specs.Vec.{vec_items}
use Rattle.glob_attributes.specs.Views.{assignment_with}
use Rattle.glob_attributes.specs.States.{states_in}
use Rattle.glob_attributes.proofs.states.PathAttributes.states_of.Given as goal

-- the states of the names so far
abbrev pub invariant-loop-name : goal.invariant-loop-name
invariant-loop-name l = map (assignment_with (λ bytes. bytes.now)) l.states.items ≡ states_in l.self (map vec_items (take l.name-index l.names))
