-- The tokens of the right line run over those of the left one, and both lines match folders alone, or the right one files too.
use Rattle.std.proofs.Common.{IsTrue, sym, ◌∙◌}
use Rattle.std.proofs.lemmas.Bool.{false≢true}
use Rattle.glob_patterns.specs.Patterns.{is_for_directories}
use Rattle.glob_lint.specs.Private.Rows.{row_of}
use Rattle.glob_lint.proofs.lemmas.Coverings.{covered}
use Rattle.glob_lint.proofs.covering.covers.Goals as goal
use Rattle.glob_lint.proofs.covering.covers.Goals.{else-is_for_folders-via-then-is_for_folders+else-not-is_for_folders, else-is_for_folders-via-else-is_for_folders}

pub returns-in-Some-Some : goal.returns-in-Some-Some
returns-in-Some-Some c = λ yes.
    let both = c.in-Some-Some in
    let left = c.args.left.now in
    let right = c.args.right.now in
    let folders : IsTrue (is_for_directories right.mode) → IsTrue (is_for_directories left.mode) = λ t. elim c.else-is_for_folders.branch [
      | else-is_for_folders-via-then-is_for_folders+else-not-is_for_folders w ↦ sym w.is_for_folders-then-is_for_folders.ensures ∙ w.if-not-is_for_folders.false
      | else-is_for_folders-via-else-is_for_folders w ↦ absurd (false≢true (sym w.if-is_for_folders.false ∙ c.is_for_folders.ensures ∙ t))
    ] in
    covered left right (row_of both.left) (row_of both.right) c.args.rules c.in-Git.is both.ensures both.ensures' c.way_of.result c.way_of.ensures
    (c.runs_over.ensures yes) folders
