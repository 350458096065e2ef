-- What the parser of plain lines means: the readings of the lines, with the numbers of the lines.
use Rattle.std.specs.Prelude.{◌≡◌, ℕ, List}
use Rattle.gix_glob.specs.Entries.{Entry}
use Rattle.glob_lines.specs.Entries.{Entries, ReadsLine}
use Rattle.glob_lines.specs.Lines.{EndsInFeed}

-- a pattern without a value, and its number
abbrev pub PlainEntry : Type 0
PlainEntry = Entry (Unit {0})

-- a plain line gives itself
abbrev pub GivesItself : List ℕ → List ℕ → Unit {0} → Type 0
GivesItself line text _ = text ≡ line

-- The plain entries of the bytes: for each line, numbered from 1, that has a reading, this reading and the number.
abbrev pub Plain : List ℕ → List PlainEntry → Type 0
Plain bytes entries = Entries ReadsLine EndsInFeed GivesItself bytes entries
