-- What rows of tokens say of lines, by Git's rules.
use Rattle.std.proofs.Common.{◌≡◌, Bool, true, IsTrue, List, ℕ, sym, subst}
use Rattle.glob_matcher.specs.declared.wildmatch.way.Way.{Way}
use Rattle.glob_patterns.specs.declared.pattern.case.Case.{Case}
use Rattle.glob_patterns.specs.GitPaths.{git_way}
use Rattle.glob_patterns.specs.Patterns.{is_for_directories}
use Rattle.glob_lists.specs.declared.rules.Reading.{Reading}
use Rattle.glob_lists.specs.declared.rules.Reading.TheVariants.{Git}
use Rattle.glob_lists.specs.declared.rules.Rules.{Rules}
use Rattle.glob_lists.specs.Rules.{by_git}
use Rattle.glob_lint.specs.Lines.{AreApart, Covers, LineParts, Meets, MeetsNothing}
use Rattle.glob_lint.specs.Private.Ends.{DifferAtEnd, EndsIn}
use Rattle.glob_lint.specs.Private.LineRows.{IsRowOf}
use Rattle.glob_lint.specs.Private.Parts.{MatchesNoPath}
use Rattle.glob_lint.specs.Private.Rows.{IsCutBy, Row}
use Rattle.glob_lint.specs.Private.Running.{RunsOver}
use Rattle.glob_lint.proofs.lemmas.Ends.{ends_apart}

-- a line for folders alone matches no file
only_folders : (case : Case) (line : LineParts) (path : List ℕ) (is_dir : Bool) → Meets (by_git case) line path is_dir → IsTrue (is_for_directories line.mode) → is_dir ≡ true
only_folders case line path is_dir m for_folders = let same = m.answers.answers.directory for_folders in cc

module _ (left right : LineParts) (left_row right_row : Row) where
  covered_by_git : (case : Case) → IsRowOf case left left_row → IsRowOf case right right_row → (way : Way) → way ≡ git_way case → RunsOver way left_row right_row
      → (IsTrue (is_for_directories right.mode) → IsTrue (is_for_directories left.mode)) → Covers (by_git case) left right
  covered_by_git case x y way is runs folders = λ path is_dir real m.
      y.back path is_dir (λ t. only_folders case left path is_dir m (folders t))
      ((subst (λ (w : Way). RunsOver w left_row right_row) is runs).at path real.bytes (x.out path is_dir m))

  pub covered : (rules : Rules) → rules.reading ≡ Git → ((case : Case) → IsRowOf case left left_row) → ((case : Case) → IsRowOf case right right_row)
      → (way : Way) → way ≡ git_way rules.case → RunsOver way left_row right_row
      → (IsTrue (is_for_directories right.mode) → IsTrue (is_for_directories left.mode)) → Covers rules left right
  covered rules git x y way is runs folders =
      subst (λ (reading : Reading). Covers (record { case = rules.case; reading = reading }) left right) (sym git)
      (covered_by_git rules.case (x rules.case) (y rules.case) way is runs folders)

-- a row that matches no path
module _ (line : LineParts) (row : Row) where
  none_by_git : (case : Case) → IsRowOf case line row → (way : Way) → way ≡ git_way case → MatchesNoPath way row → MeetsNothing (by_git case) line
  none_by_git case x way is none = λ path is_dir real m.
      (subst (λ (w : Way). MatchesNoPath w row) is none).at path real (x.out path is_dir m)

  pub none_met : (rules : Rules) → rules.reading ≡ Git → ((case : Case) → IsRowOf case line row) → (way : Way) → way ≡ git_way rules.case → MatchesNoPath way row → MeetsNothing rules line
  none_met rules git x way is none =
      subst (λ (reading : Reading). MeetsNothing (record { case = rules.case; reading = reading }) line) (sym git) (none_by_git rules.case (x rules.case) way is none)

-- rows whose ends differ
module _ (left right : LineParts) (left_row right_row : Row) where
  apart_by_git : (case : Case) → IsRowOf case left left_row → IsRowOf case right right_row → (way : Way) → way ≡ git_way case → (left_end right_end : List ℕ)
      → EndsIn way left_row left_end → EndsIn way right_row right_end → DifferAtEnd way left_end right_end → AreApart (by_git case) left right
  apart_by_git case x y way is left_end right_end ends ends_too differ = λ path is_dir real m k.
      ends_apart way left_end right_end path differ
      (ends.at path (subst (λ (w : Way). IsCutBy w left_row path) (sym is) (x.out path is_dir m)))
      (ends_too.at path (subst (λ (w : Way). IsCutBy w right_row path) (sym is) (y.out path is_dir k)))

  pub apart : (rules : Rules) → rules.reading ≡ Git → ((case : Case) → IsRowOf case left left_row) → ((case : Case) → IsRowOf case right right_row)
      → (way : Way) → way ≡ git_way rules.case → (left_end right_end : List ℕ)
      → EndsIn way left_row left_end → EndsIn way right_row right_end → DifferAtEnd way left_end right_end → AreApart rules left right
  apart rules git x y way is left_end right_end ends ends_too differ =
      subst (λ (reading : Reading). AreApart (record { case = rules.case; reading = reading }) left right) (sym git)
      (apart_by_git rules.case (x rules.case) (y rules.case) way is left_end right_end ends ends_too differ)
