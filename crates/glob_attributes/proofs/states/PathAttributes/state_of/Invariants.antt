use Rattle.std.proofs.Common.{◌≡◌, drop}
use Rattle.glob_attributes.specs.States.{state_in}
use Rattle.glob_attributes.proofs.states.PathAttributes.state_of.Given as goal

-- none so far names it, so those that follow decide
abbrev pub invariant-loop-assignment : goal.invariant-loop-assignment
invariant-loop-assignment l = state_in l.self l.name ≡ state_in (drop l.assignment-index l.self) l.name
