-- One row of tokens run over another: each text that the left one matches, the right one does.
use Rattle.std.specs.Prelude.{ℕ, ◌<◌, List, All, IfSome, length}
use Rattle.glob_matcher.specs.declared.wildmatch.way.Way.{Way}
use Rattle.glob_matcher.specs.Bytes.{NoSlash}
use Rattle.glob_matcher.specs.Matching.{Fits, Lang, OneByte}
use Rattle.glob_matcher.specs.Tokens.{Dirs, Free, Token}
use Rattle.glob_lint.specs.declared.running.Rests.{Rests}
use Rattle.glob_lint.specs.declared.running.Search.{Search}
use Rattle.glob_lint.specs.Private.Rows.{IsCutBy, IsPartedBy, Row, row_of}

-- each is a byte
abbrev pub AreBytes : List ℕ → Type 0
AreBytes value = All (λ b. b < 256) value

-- each text that the left row matches, the right one does
pub record RunsOver (way : Way) (left right : Row) : Type 0 where
  pub at : (value : List ℕ) → AreBytes value → IsCutBy way left value → IsCutBy way right value

-- the left token takes one byte
pub record IsOfOneByte (way : Way) (token : Token) : Type 0 where
  pub one : (piece : List ℕ) → Lang way token piece → OneByte (Fits way token) piece

-- each byte that the left token takes, the right one does
pub record FitsAll (way : Way) (left right : Token) : Type 0 where
  pub each : (b : ℕ) → b < 256 → Fits way left b → Fits way right b

-- no text of the token has a slash
pub record KeepsWithin (way : Way) (token : Token) : Type 0 where
  pub at : (piece : List ℕ) → Lang way token piece → NoSlash piece 0 (length piece)

-- what the row matches begins with some text, and goes on with what a later row of it matches
pub record Reaches (way : Way) (row later : Row) : Type 0 where
  pub at : (value : List ℕ) → IsCutBy way row value → IsPartedBy way Free later value

-- what the row matches begins with folders or nothing, and goes on with what the row behind them matches
pub record TakesFolders (way : Way) (row after : Row) : Type 0 where
  pub at : (value : List ℕ) → IsCutBy way row value → IsPartedBy way Dirs after value

-- it is enough that what is left of the right line matches what is left of the left one
abbrev pub RestsRun : Way → Rests → Type 0
RestsRun way rests = RunsOver way (row_of rests.left) (row_of rests.right)

-- where the later rests run over one another, the earlier ones do
abbrev pub LeadsTo : Way → Rests → Rests → Type 0
LeadsTo way earlier later = RestsRun way later → RestsRun way earlier

-- Where any of the rests run over one another that a search knows, the rows do.
pub record IsSound (way : Way) (left right : Row) (search : Search) : Type 0 where
  pub at : RestsRun way search.at → RunsOver way left right
  pub within : IfSome search.within (λ rests. RestsRun way rests → RunsOver way left right)
  pub across : IfSome search.across (λ rests. RestsRun way rests → RunsOver way left right)
