-- The ignore entries of bytes by equation.
use Rattle.std.specs.Prelude.{ℕ, ◌&&◌, ◌==◌, nat_eq, if◌then◌else◌, List, [], ◌∷◌, Option, None, Some, codes}
use Rattle.std.specs.List.{concat, list_all, starts_with}
use Rattle.std.specs.Str.{bytes_eq}
use Rattle.glob_lines.specs.Ignore.{is_comment, units_of, without_mark}
use Rattle.glob_lines.specs.Lines.{line_feed}
use Rattle.glob_lines.specs.Plain.{PlainEntry}
use Rattle.glob_lines.specs.Equations.Entries.{LineContent, entries_of, line_reading}

-- the byte of a carriage return
abbrev pub carriage_return : ℕ
carriage_return = 13

-- the bytes without each carriage return that stands directly before a line feed
abbrev pub without_returns : List ℕ → List ℕ
without_returns [] = []
without_returns (b ∷ bytes) =
    if b == carriage_return && starts_with nat_eq bytes (line_feed ∷ [])
    then without_returns bytes
    else b ∷ without_returns bytes

-- the unit that is a space
abbrev pub space : List ℕ
space = codes " "

-- the units but for the spaces at the end
abbrev pub units_before_spaces : List (List ℕ) → List (List ℕ)
units_before_spaces [] = []
units_before_spaces (unit ∷ units) = if list_all (bytes_eq space) (unit ∷ units) then [] else unit ∷ units_before_spaces units

-- the line without the spaces at its end
unfoldable pub text_before_spaces : List ℕ → List ℕ
text_before_spaces line = concat (units_before_spaces (units_of line))

-- what a line gives: nothing where it is a comment
abbrev pub ignore_content : List ℕ → Option (LineContent (Unit {0}))
ignore_content line = if is_comment line then None else Some (record { text = text_before_spaces line; value = tt })

-- the ignore entries of the bytes
abbrev pub ignore_of : List ℕ → List PlainEntry
ignore_of bytes = entries_of line_reading ignore_content (without_returns (without_mark bytes))
