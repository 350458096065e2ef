-- How the paths begin that a line matches.
use Rattle.std.specs.Prelude.{◌≡◌, ◌<◌, if◌then◌else◌, ℕ, List, [], ◌++◌, length, slice_index, unwrap_or}
use Rattle.glob_matcher.specs.declared.wildmatch.way.Way.{Way}
use Rattle.glob_matcher.specs.Bytes.{fold}
use Rattle.gix_glob.specs.GitPaths.{front_of}
use Rattle.gix_glob.specs.Patterns.{looks_at_name}
use Rattle.gix_glob.specs.Stripping.{folding_by}
use Rattle.glob_lists.specs.declared.rules.Rules.{Rules}
use Rattle.glob_lint.specs.Lines.{LineParts}

-- by the literal front of its text, unless it looks at names alone
abbrev pub front_of_line : LineParts → List ℕ
front_of_line line = if looks_at_name line.mode then [] else front_of line.text

-- with the base of its list, and with that front
abbrev pub beginning_of : LineParts → List ℕ
beginning_of line = unwrap_or line.base [] ++ front_of_line line

-- the path begins as this text does, after folding
pub record BeginsAs (rules : Rules) (text path : List ℕ) : Type 0 where
  pub begins : List ℕ
  pub below : List ℕ
  pub joined : path ≡ begins ++ below
  pub same : folding_by rules.case begins ≡ folding_by rules.case text

-- the texts have other bytes at some place
pub record DifferAtFront (way : Way) (left right : List ℕ) : Type 0 where
  pub place : ℕ
  pub in_left : place < length left
  pub in_right : place < length right
  pub other : ¬ (fold way (slice_index left place) ≡ fold way (slice_index right place))
