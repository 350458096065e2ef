-- The star takes what comes next, and stays.
use Rattle.std.proofs.Common.{sym, subst}
use Rattle.glob_lint.specs.declared.tokens.LineTokens.{LineTokens}
use Rattle.glob_lint.specs.Private.Rows.{row_of}
use Rattle.glob_lint.specs.Private.Running.{RunsOver}
use Rattle.glob_lint.proofs.lemmas.Running.{any_grown, folders_grown, within_grown}
use Rattle.glob_lint.proofs.running.Rests.grown.Goals as goal
use Rattle.glob_lint.proofs.running.Rests.grown.Goals.{in-Local, in-Free, in-Dirs+in_ok-left-in-Dirs}

pub returns : goal.returns
returns c =
    let way = c.args.way in
    let left = row_of c.args.self.now.left in
    let right = row_of c.args.self.now.right in
    let y = c.in_ok-star.ensures in
    let x = c.in_ok-next.ensures in
    let after = c.in_ok-next.next.after in
    let P : LineTokens → Type 0 = λ later. RunsOver way (row_of later) right → RunsOver way left right in
    elim c.match-star.branch [
      | in-Local w ↦ subst P (sym w.left-is)
          (within_grown way left right (row_of c.in_ok-star.field-0.after) c.in_ok-star.field-0.kind y (row_of after) c.in_ok-next.next.kind x w.in-Local.is
          (w.keeps_within.ensures (row_of after) x w.if-keeps_within.true))
      | in-Free w ↦ subst P (sym w.left-is)
          (any_grown way left right (row_of c.in_ok-star.field-0.after) c.in_ok-star.field-0.kind y (row_of after) c.in_ok-next.next.kind x w.in-Free.is)
      | in-Dirs+in_ok-left-in-Dirs w ↦ subst P (sym w.left-is)
          (folders_grown way left right (row_of c.in_ok-star.field-0.after) c.in_ok-star.field-0.kind y (row_of w.in_ok-left-in-Dirs.left) w.in-Dirs.is
          w.in_ok-left-in-Dirs.ensures)
    ]
