-- What the parser of ignore lines means: the readings of an ignore file's lines, by Git's rules but for the three departures that
-- docs/PATTERNS.md names.
use Rattle.std.specs.Prelude.{◌≡◌, ◌≢◌, ◌⊎◌, ℕ, Bool, ◌==◌, true, false, nat_eq, if◌then◌else◌, List, [], ◌∷◌, ◌++◌, drop, Option, MatchOption, codes}
use Rattle.std.specs.List.{AllByRecursion, concat, ends_with, starts_with}
use Rattle.gix_glob.specs.Bytes.{backslash}
use Rattle.glob_lines.specs.Lines.{CutsLine}
use Rattle.glob_lines.specs.Entries.{Entries, ReadsLine}
use Rattle.glob_lines.specs.Plain.{PlainEntry}

-- ---- the bytes that hold the lines

-- what follows the byte order mark at the front, where there is one: three bytes
abbrev pub without_mark : List ℕ → List ℕ
without_mark bytes = if starts_with nat_eq bytes (239 ∷ 187 ∷ 191 ∷ []) then drop 3 bytes else bytes

-- a line ends in a line feed, with the carriage return that stands directly before it, where one does
abbrev pub EndsIgnoreLine : List ℕ → List ℕ → Type 0
EndsIgnoreLine line ending = (ending ≡ codes "\r\n") ⊎ ((ending ≡ codes "\n") × (ends_with nat_eq line (codes "\r") ≡ false))

-- ---- a line

-- a line that begins with a number sign
abbrev pub is_comment : List ℕ → Bool
is_comment line = starts_with nat_eq line (codes "#")

-- the units of a line, from its front: a backslash and the byte after it are one, any other byte is one
abbrev pub units_of : List ℕ → List (List ℕ)
units_of [] = []
units_of (b ∷ []) = (b ∷ []) ∷ []
units_of (b ∷ c ∷ bytes) =
    if b == backslash
    then (b ∷ c ∷ []) ∷ units_of bytes
    else (b ∷ []) ∷ units_of (c ∷ bytes)

-- The text is the line without the spaces at its end: the line's units are those that are kept, the last of which is no space,
-- and then spaces.
pub record Trims (line text : List ℕ) : Type 0 where
  pub kept : List (List ℕ)
  pub spaces : List (List ℕ)
  pub units : units_of line ≡ kept ++ spaces
  pub each : AllByRecursion (λ unit. unit ≡ codes " ") spaces
  pub last : (before : List (List ℕ)) → kept ≢ before ++ codes " " ∷ []
  pub joined : text ≡ concat kept

-- a line that is no comment gives its text without the spaces at its end
pub record GivesTrimmed (line text : List ℕ) (value : Unit {0}) : Type 0 where
  pub no_comment : is_comment line ≡ false
  pub trims : Trims line text

-- The ignore entries of the bytes: for each line, numbered from 1, that is no comment and whose text without the spaces at its
-- end has a reading, this reading and the number. A byte order mark at the front isn't of the lines.
abbrev pub Ignore : List ℕ → List PlainEntry → Type 0
Ignore bytes entries = Entries ReadsLine EndsIgnoreLine GivesTrimmed (without_mark bytes) entries

-- ---- one line after the other

-- The bytes are a first line, its ending and the rest. The line gives this text, or is a comment where there is no text.
pub record BeginsWithLine (bytes : List ℕ) (text : Option (List ℕ)) (rest : List ℕ) : Type 0 where
  pub line : List ℕ
  pub cut : CutsLine EndsIgnoreLine bytes line rest
  pub gives : MatchOption text (is_comment line ≡ true) (λ line_text. GivesTrimmed line line_text tt)
