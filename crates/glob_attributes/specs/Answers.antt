-- How the state of an attribute is told.
use Rattle.std.specs.Prelude.{ℕ, List, codes}
use Rattle.glob_attributes.specs.declared.assignment.State.{State}
use Rattle.glob_attributes.specs.declared.assignment.State.TheVariants.{Set, Unset, Unspecified, Value}

-- a state: one of three words, or the bytes of the value
abbrev pub state_text : State (List ℕ) → List ℕ
state_text Set = codes "set"
state_text Unset = codes "unset"
state_text Unspecified = codes "unspecified"
state_text (Value bytes) = bytes
