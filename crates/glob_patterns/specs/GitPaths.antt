-- Paths, as Git reads patterns: the literal front of a path pattern is compared by itself, and the rest of its text is a pattern of its own.
use Rattle.std.specs.Prelude.{◌≡◌, ℕ, ◌++◌, Bool, true, not, IsTrue, List, Option, Some}
use Rattle.std.specs.List.{before_first}
use Rattle.glob_matcher.specs.declared.wildmatch.way.Folding.{Folding}
use Rattle.glob_matcher.specs.declared.wildmatch.way.Folding.TheVariants.{Off, Exact}
use Rattle.glob_matcher.specs.declared.wildmatch.way.Way.{Way}
use Rattle.glob_matcher.specs.Bytes.{is_special, way_with}
use Rattle.glob_matcher.specs.Matching.{SplitsBy}
use Rattle.glob_patterns.specs.declared.mode.Mode as pattern
use Rattle.glob_patterns.specs.declared.pattern.case.Case.{Case}
use Rattle.glob_patterns.specs.declared.pattern.case.Case.TheVariants.{Sensitive, Fold}
use Rattle.glob_patterns.specs.Folding.{folding_of}
use Rattle.glob_patterns.specs.Patterns.{is_for_directories, looks_at_name}
use Rattle.glob_patterns.specs.RepositoryPaths.{subject}

-- the front of a text: what stands before its first special byte, escaped or not
abbrev pub front_of : List ℕ → List ℕ
front_of text = before_first is_special text

-- The value begins with bytes that are alike to the front of the text, and the rest of the text matches what follows them.
pub record FrontAndRest (value text : List ℕ) (way : Way) : Type 0 where
  pub rest : List ℕ
  pub text_cut : text ≡ front_of text ++ rest
  pub begins : List ℕ
  pub below : List ℕ
  pub value_cut : value ≡ begins ++ below
  pub alike : folding_of way begins ≡ folding_of way (front_of text)
  pub splits : SplitsBy below rest way

-- how Git folds
abbrev pub git_folding : Case → Folding
git_folding Sensitive = Off
git_folding Fold = Exact

-- the way in which Git matches paths: no wildcard matches a slash
abbrev pub git_way : Case → Way
git_way case = way_with true (git_folding case)

-- A pattern of this text and this mode answers yes for a path, as Git reads it: a pattern for directories only where the path is known to
-- be one. One that looks at the name alone matches that; any other matches the path by its front and its rest.
pub record AnswersAsGit (text : List ℕ) (pattern_mode : pattern.Mode) (path : List ℕ) (basename_start : Option ℕ) (is_dir : Option Bool) (case : Case) : Type 0 where
  pub directory : IsTrue (is_for_directories pattern_mode) → is_dir ≡ Some true
  pub by_name : IsTrue (looks_at_name pattern_mode) → SplitsBy (subject pattern_mode path basename_start) text (git_way case)
  pub by_path : IsTrue (not (looks_at_name pattern_mode)) → FrontAndRest path text (git_way case)
