-- The entries of numbered lines by equation, once it is told what a single line gives, and how a text is read.
use Rattle.std.specs.Prelude.{true, ℕ, ◌+◌, List, [], ◌∷◌, Option}
use Rattle.std.specs.List.{cons_option}
use Rattle.std.specs.Option.{option_and_then, option_map}
use Rattle.gix_glob.specs.Entries.{Entry}
use Rattle.gix_glob.specs.Equations.Entries.{entry_with}
use Rattle.gix_glob.specs.Equations.Readings.{Reading, reading_of}
use Rattle.glob_lines.specs.Equations.Lines.{lines_of}

-- what a line gives: the text that a pattern is read from, and the value beside the pattern
pub record LineContent (V : Type 0) : Type 0 where
  pub text : List ℕ
  pub value : V

-- how a text is read, where it has a reading
abbrev pub ReadBy : Type 0
ReadBy = List ℕ → Option Reading

-- the reading of a line with its sign
abbrev pub line_reading : ReadBy
line_reading line = reading_of true line

-- the entry of a line that gives this, and has this number
abbrev pub entry_of_content : {V : Type 0} → ReadBy → ℕ → LineContent V → Option (Entry V)
entry_of_content read number content = option_map (entry_with content.value number) (read content.text)

-- the entry of a line that gives this text, if it gives any, with this value
abbrev pub entry_of_text : {V : Type 0} → ReadBy → V → ℕ → Option (List ℕ) → Option (Entry V)
entry_of_text read value number text = option_and_then (λ t. option_map (entry_with value number) (read t)) text

-- the entry of a line, where `content_of` says what a line gives, if it gives anything
unfoldable pub entry_of_line : {V : Type 0} → ReadBy → (List ℕ → Option (LineContent V)) → ℕ → List ℕ → Option (Entry V)
entry_of_line read content_of number line = option_and_then (entry_of_content read number) (content_of line)

-- the entries of lines, the first of which has this number
abbrev pub entries_from : {V : Type 0} → ReadBy → (List ℕ → Option (LineContent V)) → ℕ → List (List ℕ) → List (Entry V)
entries_from read content_of number [] = []
entries_from read content_of number (line ∷ lines) = cons_option (entry_of_line read content_of number line) (entries_from read content_of (number + 1) lines)

-- the entries of the lines of the bytes
abbrev pub entries_of : {V : Type 0} → ReadBy → (List ℕ → Option (LineContent V)) → List ℕ → List (Entry V)
entries_of read content_of bytes = entries_from read content_of 1 (lines_of bytes)
