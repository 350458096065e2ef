-- What a call takes off an attribute file.
use Rattle.std.specs.Prelude.{◌≡◌, ℕ, ◌≤◌, Bool, ◌&&◌, ◌==◌, nat_le, List, length}
use Rattle.std.specs.Borrow.{Bor, MutBor}
use Rattle.glob_lines.specs.Ignore.{EndsIgnoreLine}
use Rattle.glob_lines.specs.Lines.{CutsLine}
use Rattle.glob_lists.specs.declared.rules.Reading.{Reading}
use Rattle.glob_attributes.specs.declared.borrowed.telling.TextMacro.{TextMacro}
use Rattle.glob_attributes.specs.declared.line.Silence.{Silence}
use Rattle.glob_attributes.specs.declared.line.Silence.TheVariants.{TooLong, MacroBelowTop, MacroName, AttributeName, Negative}
use Rattle.glob_attributes.specs.Borrowed.{assigned_by, definition_of, memory_for, place_of, spelled_head}
use Rattle.glob_attributes.specs.Patterns.{IsPatternAs}
use Rattle.glob_attributes.specs.Places.{IsLeft}
use Rattle.glob_attributes.specs.Readings.{Gives, a_macro, a_pattern, line_gives, nothing, silent}
use Rattle.gix_glob_c.specs.declared.attribute_file.GlobAttributeLine.{GlobAttributeLine}
use Rattle.gix_glob_c.specs.declared.ignore_file.GlobLines.{GlobLines}
use Rattle.gix_glob_c.specs.IgnoreFile.{unread_of}
use Rattle.gix_glob_c.specs.Parsed.{IsLawful, mode_of, reading_of}
use Rattle.gix_glob_c.specs.Parts.{unless_none}
use Rattle.gix_glob_c.specs.Places.{IsPartOf}

-- these are all lines of a file of 100 MiB or more, of which none is read, as `FileLines` has it
abbrev pub is_too_large : GlobLines → Bool
is_too_large lines = lines.number == 0 && nat_le 104857600 (length lines.rest.now)

-- an answer that says that a line was taken
abbrev pub IsTaken : ℕ → Type 0
IsTaken answer = (1 ≤ answer) × (answer ≤ 8)

-- the number that C is told for a line that says nothing for a reason, and for any line
abbrev pub number_of : Silence → ℕ
number_of TooLong = 4
number_of MacroBelowTop = 5
number_of MacroName = 6
number_of AttributeName = 7
number_of Negative = 8

abbrev pub kind_of : Gives → ℕ
kind_of nothing = 1
kind_of (a_pattern bytes assignments) = 2
kind_of (a_macro name assignments) = 3
kind_of (silent silence) = number_of silence

-- the new line is what a line gives, where that is a pattern, by this reading, and else it is the old one
abbrev pub ReadsPattern : Reading → Gives → GlobAttributeLine → GlobAttributeLine → Type 0
ReadsPattern reading (a_pattern bytes assignments) old new =
    IsPatternAs reading bytes new.pattern.text.now (mode_of new.pattern) (unless_none new.pattern.first_wildcard_pos)
    × IsLawful new.pattern × (reading_of new.pattern ≡ reading) × (assigned_by new.words.now ≡ assignments)
ReadsPattern reading _ old new = new ≡ old

-- the same for a macro
abbrev pub ReadsMacro : Gives → TextMacro → TextMacro → Type 0
ReadsMacro (a_macro name assignments) old new = definition_of new ≡ record { name = name; assignments = assignments }
ReadsMacro _ old new = new ≡ old

-- what a line gives was read: a pattern, a macro, or neither
pub record ReadsAttributes (reading : Reading) (gives : Gives) (old new : GlobAttributeLine) (old_macro new_macro : TextMacro) (number : ℕ) : Type 0 where
  pub kind : number ≡ kind_of gives
  pub pattern : ReadsPattern reading gives old new
  pub definition : ReadsMacro gives old_macro new_macro

-- The bytes begin with a line, which was read, and the rest follows it.
pub record TakesAttributes (reading : Reading) (is_top : Bool) (bytes rest : List ℕ) (old new : GlobAttributeLine) (old_macro new_macro : TextMacro) (number : ℕ) : Type 0 where
  pub line : List ℕ
  pub cut : CutsLine EndsIgnoreLine bytes line rest
  pub reads : ReadsAttributes reading (line_gives is_top line) old new old_macro new_macro number

-- The pattern's text and the macro's name are parts of the head, and the words a part of the lines.
pub record TextsLie (head lines : Bor (List ℕ)) (out : GlobAttributeLine) (definition : TextMacro) (number : ℕ) : Type 0 where
  pub pattern_lies : number ≡ 2 → IsPartOf out.pattern.text head × IsPartOf out.words lines
  pub macro_lies : number ≡ 3 → IsPartOf definition.name head × IsPartOf definition.words lines

-- A line was taken off the lines: how much of the memory is left, and where its texts lie. A head in quotes lies where the memory began,
-- and any other in the lines.
pub record LiesInMemory (lines : GlobLines) (rest : List ℕ) (old new : MutBor (List ℕ)) (out : GlobAttributeLine) (definition : TextMacro) (number : ℕ) : Type 0 where
  pub line : List ℕ
  pub cut : CutsLine EndsIgnoreLine (unread_of lines) line rest
  pub left : IsLeft (memory_for line) old new
  pub texts : TextsLie (place_of (spelled_head line) old lines.rest) lines.rest out definition number
