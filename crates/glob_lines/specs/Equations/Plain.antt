-- The plain entries of bytes by equation.
use Rattle.std.specs.Prelude.{ℕ, List, Option, Some}
use Rattle.glob_lines.specs.Plain.{PlainEntry}
use Rattle.glob_lines.specs.Equations.Entries.{LineContent, entries_of, line_reading}

-- what a line gives: itself
abbrev pub plain_content : List ℕ → Option (LineContent (Unit {0}))
plain_content line = Some (record { text = line; value = tt })

-- the plain entries of the bytes
abbrev pub plain_of : List ℕ → List PlainEntry
plain_of bytes = entries_of line_reading plain_content bytes
