-- What is seen of the code's values: the same with lists of bytes in place of vectors and slices.
use Rattle.std.specs.Prelude.{ℕ, List, map, Vec}
use Rattle.std.specs.Vec.{vec_items}
use Rattle.std.specs.declared.alloc.Global.{Global}
use Rattle.glob_attributes.specs.declared.assignment.Assignment.{Assignment}
use Rattle.glob_attributes.specs.declared.assignment.State.{State}
use Rattle.glob_attributes.specs.declared.assignment.State.TheVariants.{Set, Unset, Unspecified, Value}
use Rattle.glob_attributes.specs.declared.line.LineReading.{LineReading}
use Rattle.glob_attributes.specs.declared.line.LineReading.TheVariants as read
use Rattle.glob_attributes.specs.declared.macros.Macro.{Macro}
use Rattle.glob_attributes.specs.Assignments.{Assigned}
use Rattle.glob_attributes.specs.Macros.{Definition}
use Rattle.glob_attributes.specs.Readings.{Gives, a_macro, a_pattern, nothing, silent}

-- the same state or assignment with other bytes
abbrev pub state_with : {A B : Type 0} → (A → B) → State A → State B
state_with see Set = Set
state_with see Unset = Unset
state_with see Unspecified = Unspecified
state_with see (Value bytes) = Value (see bytes)

abbrev pub assignment_with : {A B : Type 0} → (A → B) → Assignment A → Assignment B
assignment_with see assignment = record { name = see assignment.name; state = state_with see assignment.state }

abbrev pub seen_assignments : Vec (Assignment (Vec ℕ Global)) Global → List Assigned
seen_assignments assignments = map (assignment_with vec_items) assignments.items

abbrev pub seen_reading : LineReading → Gives
seen_reading read.Nothing = nothing
seen_reading (read.Silent silence) = silent silence
seen_reading (read.Macro name assignments) = a_macro name.items (seen_assignments assignments)
seen_reading (read.Pattern pattern assignments) = a_pattern pattern.items (seen_assignments assignments)

abbrev pub seen_macro : Macro → Definition
seen_macro macro = record { name = macro.name.items; assignments = seen_assignments macro.assignments }
