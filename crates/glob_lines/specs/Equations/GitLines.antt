-- The entries of bytes as Git reads them, by equation.
use Rattle.std.specs.Prelude.{ℕ, ◌-◌, ◌||◌, Bool, if◌then◌else◌, List, [], length, take, Option, None, Some}
use Rattle.std.specs.Str.{bytes_eq}
use Rattle.gix_glob.specs.Equations.GitLines.{git_reading_of}
use Rattle.glob_lines.specs.GitLines.{before_zero, return_of}
use Rattle.glob_lines.specs.Ignore.{is_comment, without_mark}
use Rattle.glob_lines.specs.Plain.{PlainEntry}
use Rattle.glob_lines.specs.Equations.Entries.{LineContent, ReadBy, entries_of}
use Rattle.glob_lines.specs.Equations.Ignore.{text_before_spaces}

-- the line without one carriage return at its end
unfoldable pub without_return : List ℕ → List ℕ
without_return line = take (length line - length (return_of line)) line

-- whether a line gives nothing
abbrev pub is_silent : List ℕ → Bool
is_silent line = bytes_eq line [] || is_comment line

-- the text that a line gives, where it gives one
unfoldable pub git_text : List ℕ → List ℕ
git_text line = text_before_spaces (before_zero (without_return line))

-- what a line gives
abbrev pub git_content : List ℕ → Option (LineContent (Unit {0}))
git_content line = if is_silent line then None else Some (record { text = git_text line; value = tt })

-- the reading of a text, which each has
abbrev pub git_reading : ReadBy
git_reading text = Some (git_reading_of text)

-- the entries of the bytes
abbrev pub git_entries_of : List ℕ → List PlainEntry
git_entries_of bytes = entries_of git_reading git_content (without_mark bytes)
