-- The lines of an attribute file, and the entries of those that give a pattern.
use Rattle.std.specs.Prelude.{◌≡◌, ℕ, true, nat_le, if◌then◌else◌, List, [], length, Option, None, Some}
use Rattle.std.specs.List.{AllZip, enumerate_from, filter_map}
use Rattle.gix_glob.specs.Entries.{Entry}
use Rattle.glob_lines.specs.Ignore.{EndsIgnoreLine, without_mark}
use Rattle.glob_lines.specs.Lines.{Lines}
use Rattle.glob_attributes.specs.Assignments.{Assigned}
use Rattle.glob_attributes.specs.Equations.Files.{file_lines}
use Rattle.glob_attributes.specs.Patterns.{IsPatternAs}
use Rattle.glob_attributes.specs.Readings.{Gives, a_pattern, line_gives}
use Rattle.glob_lists.specs.declared.rules.Reading.{Reading}

-- The lines of a file end as those of an ignore file, and a byte order mark at its front isn't of them. A file of 100 MiB or more
-- is read as an empty one.
abbrev pub FileLines : List ℕ → List (List ℕ) → Type 0
FileLines bytes = Lines EndsIgnoreLine (if nat_le 104857600 (length bytes) then [] else without_mark bytes)

-- the number of a line that gives a pattern, with the pattern's bytes and what they are assigned
abbrev pub pattern_given : ℕ → Gives → Option (ℕ × List ℕ × List Assigned)
pattern_given number (a_pattern bytes assigned) = Some (number, bytes, assigned)
pattern_given number _ = None

-- the entry of such a line
abbrev pub IsEntryOf : Reading → ℕ × List ℕ × List Assigned → Entry (List Assigned) → Type 0
IsEntryOf reading line entry = (entry.number ≡ line.0) × IsPatternAs reading line.1 entry.text entry.mode entry.place × (entry.value ≡ line.2)

-- The entries of an attribute file: one for each line that gives a pattern, in order, where the first line has the number 1.
abbrev pub Attributes : Reading → List ℕ → List (Entry (List Assigned)) → Type 0
Attributes reading bytes =
    AllZip (IsEntryOf reading) (filter_map (λ line. pattern_given line.0 (line_gives true line.1)) (enumerate_from 1 (file_lines bytes)))
