-- Parts of paths, while a row of tokens is read: which of them no path of a work tree has.
use Rattle.std.specs.Prelude.{◌≡◌, ◌⊎◌, ℕ, List, [], ◌++◌, Option, None, Some, MatchOption, codes}
use Rattle.glob_matcher.specs.declared.wildmatch.way.Way.{Way}
use Rattle.glob_matcher.specs.Bytes.{EndsInSlash}
use Rattle.glob_lint.specs.declared.nothing.Part.{Part}
use Rattle.glob_lint.specs.declared.nothing.Part.TheVariants.{Dot, Empty, Other, TwoDots}
use Rattle.glob_lint.specs.Lines.{IsReal}
use Rattle.glob_lint.specs.Private.Rows.{IsCutBy, Row}
use Rattle.glob_lint.specs.Private.Running.{Reaches}

-- the row matches no path that a work tree can have
pub record MatchesNoPath (way : Way) (row : Row) : Type 0 where
  pub at : (value : List ℕ) → IsReal value → ¬ IsCutBy way row value

-- a part that no path has
abbrev pub text_of_part : Part → Option (List ℕ)
text_of_part Empty = Some []
text_of_part Dot = Some (codes ".")
text_of_part TwoDots = Some (codes "..")
text_of_part Other = None

-- the value is whole parts, then this text, and then what the later row matches
pub record IsPartCut (way : Way) (later : Row) (text value : List ℕ) : Type 0 where
  pub front : List ℕ
  pub rest : List ℕ
  pub joined : value ≡ front ++ (text ++ rest)
  pub whole : (front ≡ []) ⊎ EndsInSlash front
  pub behind : IsCutBy way later rest

-- each value that the row matches is cut so
pub record StandsBehind (way : Way) (row later : Row) (text : List ℕ) : Type 0 where
  pub at : (value : List ℕ) → IsCutBy way row value → IsPartCut way later text value

-- what is read is this of a part
abbrev pub StandsAt : Way → Row → Row → Part → Type 0
StandsAt way row later part = MatchOption (text_of_part part) (Reaches way row later) (StandsBehind way row later)
