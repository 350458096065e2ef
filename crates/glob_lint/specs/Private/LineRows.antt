-- A line's row of tokens matches the paths that the line does.
use Rattle.std.specs.Prelude.{◌≡◌, ℕ, Bool, true, false, IsTrue, List, [], Option, MatchOption, ◌≤◌, length, slice_index, EachIndex}
use Rattle.glob_matcher.specs.Bytes.{has_slash, star}
use Rattle.glob_patterns.specs.declared.pattern.case.Case.{Case}
use Rattle.glob_patterns.specs.GitPaths.{git_way}
use Rattle.glob_patterns.specs.Patterns.{is_for_directories}
use Rattle.glob_lists.specs.Rules.{by_git}
use Rattle.glob_lint.specs.Lines.{LineParts, Meets}
use Rattle.glob_lint.specs.Private.Rows.{IsCutBy, Row}

-- the row matches what the line does, as Git reads it, but for the kind of the path
pub record IsRowOf (case : Case) (line : LineParts) (row : Row) : Type 0 where
  pub out : (path : List ℕ) (is_dir : Bool) → Meets (by_git case) line path is_dir → IsCutBy (git_way case) row path
  pub back : (path : List ℕ) (is_dir : Bool) → (IsTrue (is_for_directories line.mode) → is_dir ≡ true) → IsCutBy (git_way case) row path
      → Meets (by_git case) line path is_dir

-- the text matches names alone: it has no slash, and isn't two stars or more
pub record IsNameText (text : List ℕ) : Type 0 where
  pub bare : has_slash text ≡ false
  pub few : ¬ (2 ≤ length text × EachIndex text (λ m. slice_index text m ≡ star))

-- the bytes of a base, and none where there is no base
abbrev pub IsBytesOf : Option (List ℕ) → List ℕ → Type 0
IsBytesOf base bytes = MatchOption base (bytes ≡ []) (λ base. bytes ≡ base)
