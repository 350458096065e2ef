-- What the parser of Git's lines means: the readings of an ignore file's lines, as Git reads them.
use Rattle.std.specs.Prelude.{◌≡◌, ◌≢◌, ◌⊎◌, ℕ, ◌==◌, true, false, nat_eq, if◌then◌else◌, List, [], ◌++◌, Option, MatchOption, codes}
use Rattle.std.specs.List.{before_first, ends_with}
use Rattle.gix_glob.specs.GitLines.{GitReads}
use Rattle.glob_lines.specs.Entries.{Entries}
use Rattle.glob_lines.specs.Ignore.{Trims, is_comment, without_mark}
use Rattle.glob_lines.specs.Lines.{CutsLine, EndsInFeed}
use Rattle.glob_lines.specs.Plain.{PlainEntry}

-- the carriage return that a line ends in, or nothing
abbrev pub return_of : List ℕ → List ℕ
return_of line = if ends_with nat_eq line (codes "\r") then codes "\r" else []

-- what stands before the first byte 0
abbrev pub before_zero : List ℕ → List ℕ
before_zero line = before_first (λ b. b == 0) line

-- a line without bytes gives nothing, and neither does a comment
abbrev pub GivesNothing : List ℕ → Type 0
GivesNothing line = (line ≡ []) ⊎ (is_comment line ≡ true)

-- Another line gives a text, which may be empty: what stands before one carriage return at its end, of that what stands before the first
-- byte 0, and of that what the spaces at the end leave.
pub record GivesGitText (line text : List ℕ) (value : Unit {0}) : Type 0 where
  pub some : line ≢ []
  pub no_comment : is_comment line ≡ false
  pub body : List ℕ
  pub returned : line ≡ body ++ return_of line
  pub trims : Trims (before_zero body) text

-- The entries of the bytes as Git reads them: for each line, numbered from 1, that gives a text, the reading of this text and the number.
-- A byte order mark at the front isn't of the lines.
abbrev pub GitEntries : List ℕ → List PlainEntry → Type 0
GitEntries bytes entries = Entries GitReads EndsInFeed GivesGitText (without_mark bytes) entries

-- The bytes are a first line, its ending and the rest. The line gives this text, or nothing where there is no text.
pub record BeginsWithGitLine (bytes : List ℕ) (text : Option (List ℕ)) (rest : List ℕ) : Type 0 where
  pub line : List ℕ
  pub cut : CutsLine EndsInFeed bytes line rest
  pub gives : MatchOption text (GivesNothing line) (λ line_text. GivesGitText line line_text tt)
