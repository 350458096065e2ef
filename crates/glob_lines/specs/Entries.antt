-- Entries of numbered lines: what a parser of lines means, once it is told what a single line gives, and how a text is read.
use Rattle.std.specs.Prelude.{◌≡◌, ◌⊎◌, true, ℕ, ◌+◌, List, [], ◌∷◌, Option}
use Rattle.gix_glob.specs.declared.pattern.Mode.{Mode}
use Rattle.gix_glob.specs.Entries.{Entry}
use Rattle.gix_glob.specs.Patterns.{Reads}
use Rattle.glob_lines.specs.Lines.{Lines}

-- which pattern is read of a text: its own text, its mode and its place
abbrev pub Reader : Type 1
Reader = List ℕ → List ℕ → Mode → Option ℕ → Type 0

-- the reader of most parsers: a text is read as a line with its sign
abbrev pub ReadsLine : Reader
ReadsLine line text mode place = Reads line true text mode place

-- the entry is the reading of the text that the line gives, with the value that it gives, and this number
pub record IsEntryOf {V : Type 0} (IsRead : Reader) (Gives : List ℕ → List ℕ → V → Type 0) (line : List ℕ) (number : ℕ) (entry : Entry V) : Type 0 where
  pub text : List ℕ
  pub given : Gives line text entry.value
  pub reads : IsRead text entry.text entry.mode entry.place
  pub numbered : entry.number ≡ number

-- no text that the line gives has a reading
pub record HasNoEntry {V : Type 0} (IsRead : Reader) (Gives : List ℕ → List ℕ → V → Type 0) (line : List ℕ) : Type 0 where
  pub none : (text : List ℕ) (value : V) → Gives line text value → (read : List ℕ) (mode : Mode) (place : Option ℕ) → ¬ IsRead text read mode place

-- the entries of lines, in order: one for each line that has one, where the first line has this number
abbrev pub EntriesFrom : {V : Type 0} → Reader → (List ℕ → List ℕ → V → Type 0) → ℕ → List (List ℕ) → List (Entry V) → Type 0
EntriesFrom IsRead Gives number [] entries = entries ≡ []
EntriesFrom {V} IsRead Gives number (line ∷ lines) entries =
    (HasNoEntry IsRead Gives line × EntriesFrom IsRead Gives (number + 1) lines entries)
    ⊎ ((first : Entry V) × (more : List (Entry V)) × (entries ≡ first ∷ more) × IsEntryOf IsRead Gives line number first
    × EntriesFrom IsRead Gives (number + 1) lines more)

-- The entries of the lines of the bytes: for each line, numbered from 1, that has an entry, this entry.
-- `IsRead text ..` says which pattern is read of a text, `Ends line ending` how a line ends, and `Gives line text value` what it gives:
-- the text that a pattern is read from, and the value beside the pattern.
pub record Entries {V : Type 0} (IsRead : Reader) (Ends : List ℕ → List ℕ → Type 0) (Gives : List ℕ → List ℕ → V → Type 0) (bytes : List ℕ) (entries : List (Entry V)) : Type 0 where
  pub lines : List (List ℕ)
  pub cut : Lines Ends bytes lines
  pub each : EntriesFrom IsRead Gives 1 lines entries
