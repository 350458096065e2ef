-- The lines of an attribute file, and the entries of those that give a pattern, by equation.
use Rattle.std.specs.Prelude.{ℕ, ◌+◌, false, true, nat_le, if◌then◌else◌, List, [], ◌∷◌, length, Option, None, Some, unwrap_or}
use Rattle.std.specs.List.{cons_option}
use Rattle.gix_glob.specs.Entries.{Entry}
use Rattle.gix_glob.specs.Equations.Entries.{entry_with}
use Rattle.gix_glob.specs.Equations.GitLines.{git_reading_of}
use Rattle.gix_glob.specs.Equations.Readings as readings
use Rattle.glob_lines.specs.Equations.Ignore.{without_returns}
use Rattle.glob_lines.specs.Equations.Lines.{lines_of}
use Rattle.glob_lines.specs.Ignore.{without_mark}
use Rattle.glob_attributes.specs.Assignments.{Assigned}
use Rattle.glob_attributes.specs.Readings.{Gives, a_pattern, line_gives}
use Rattle.glob_lists.specs.declared.rules.Reading.{Reading}
use Rattle.glob_lists.specs.declared.rules.Reading.TheVariants.{Crate, Git}

-- the lines of a file
abbrev pub file_lines : List ℕ → List (List ℕ)
file_lines bytes = if nat_le 104857600 (length bytes) then [] else lines_of (without_returns (without_mark bytes))

-- what is read of the bytes of a pattern
unfoldable pub pattern_of : Reading → List ℕ → readings.Reading
pattern_of Crate bytes = unwrap_or (readings.reading_of false bytes) (record { text = bytes; mode = record { 0 = 1 }; place = None })
pattern_of Git bytes = git_reading_of bytes

-- a pattern with what its line assigns, and the line's number
abbrev pub AttributeEntry : Type 0
AttributeEntry = Entry (List Assigned)

-- the entry of a line that gives this, if it is a pattern
abbrev pub entry_given : Reading → ℕ → Gives → Option AttributeEntry
entry_given reading number (a_pattern bytes assignments) = Some (entry_with assignments number (pattern_of reading bytes))
entry_given reading number _ = None

-- the entries of lines, the first of which has this number
abbrev pub entries_from : Reading → ℕ → List (List ℕ) → List AttributeEntry
entries_from reading number [] = []
entries_from reading number (line ∷ lines) = cons_option (entry_given reading number (line_gives true line)) (entries_from reading (number + 1) lines)

-- the entries of a file
abbrev pub attributes_of : Reading → List ℕ → List AttributeEntry
attributes_of reading bytes = entries_from reading 1 (file_lines bytes)
