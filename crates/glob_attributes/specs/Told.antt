-- What is told of a file besides its entries: the lines that say nothing, and the names in the order in which they are read.
use Rattle.std.specs.Prelude.{◌≡◌, ℕ, Bool, if◌then◌else◌, List, [], ◌∷◌, ◌++◌, map, Option, None, Some}
use Rattle.std.specs.List.{enumerate_from, filter_map, flat_map, fold, list_any}
use Rattle.std.specs.Str.{bytes_eq}
use Rattle.glob_attributes.specs.declared.silences.SilentLine.{SilentLine}
use Rattle.glob_attributes.specs.Equations.Files.{file_lines}
use Rattle.glob_attributes.specs.Readings.{Gives, a_macro, a_pattern, line_gives, silent}

-- the line of this number, if it says nothing for a reason, and such lines of a file
abbrev pub silence_given : ℕ → Gives → Option SilentLine
silence_given number (silent silence) = Some (record { number = number; silence = silence })
silence_given number _ = None

abbrev pub silent_lines : Bool → List ℕ → List SilentLine
silent_lines is_top bytes = filter_map (λ line. silence_given line.0 (line_gives is_top line.1)) (enumerate_from 1 (file_lines bytes))

-- the names that a line names: a macro's first, then those of what it assigns; and those of a file
abbrev pub names_given : Gives → List (List ℕ)
names_given (a_macro name assigned) = name ∷ map (λ assignment. assignment.name) assigned
names_given (a_pattern pattern assigned) = map (λ assignment. assignment.name) assigned
names_given _ = []

abbrev pub names_read : Bool → List ℕ → List (List ℕ)
names_read is_top bytes = flat_map (λ line. names_given (line_gives is_top line)) (file_lines bytes)

-- names, and behind them each of others that isn't there yet
abbrev pub with_names : List (List ℕ) → List (List ℕ) → List (List ℕ)
with_names = fold (λ known name. if list_any (λ other. bytes_eq other name) known then known else known ++ name ∷ [])

-- The names that stand where want of memory ended the reading: those that stood before, and behind them those of the names that
-- were read first.
abbrev pub AddsSome : List (List ℕ) → List (List ℕ) → List (List ℕ) → Type 0
AddsSome old read new = (first rest : List (List ℕ)) × (read ≡ first ++ rest) × (new ≡ with_names old first)
