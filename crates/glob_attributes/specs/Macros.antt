-- The macros that an attribute file defines.
use Rattle.std.specs.Prelude.{ℕ, true, List, Option, None, Some}
use Rattle.std.specs.List.{filter_map}
use Rattle.glob_attributes.specs.Assignments.{Assigned}
use Rattle.glob_attributes.specs.Equations.Files.{file_lines}
use Rattle.glob_attributes.specs.Readings.{Gives, a_macro, line_gives}

-- a macro as plain data
pub record Definition : Type 0 where
  pub name : List ℕ
  pub assignments : List Assigned

-- the macro that a line defines, if it defines one
abbrev pub definition_given : Gives → Option Definition
definition_given (a_macro name assigned) = Some (record { name = name; assignments = assigned })
definition_given _ = None

-- the macros that the lines of a file define, in order
abbrev pub macros_of : List ℕ → List Definition
macros_of bytes = filter_map (λ line. definition_given (line_gives true line)) (file_lines bytes)
