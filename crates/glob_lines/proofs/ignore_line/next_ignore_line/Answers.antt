-- A comment gives nothing, and another line its text without the spaces at its end.
use Rattle.std.proofs.Common.{sym}
use Rattle.glob_lines.proofs.lemmas.IgnoreLemmas.{begins_with_comment, begins_with_text}
use Rattle.glob_lines.proofs.ignore_line.next_ignore_line.Goals.{then-is_comment, else-is_comment}
use Rattle.glob_lines.proofs.ignore_line.next_ignore_line.Goals as goal

pub returns-clause-line : goal.returns-clause-line
returns-clause-line c =
    let bytes = c.args.bytes.now in
    let line = c.split_ended_line.result.0.now in
    let rest = c.split_ended_line.result.1.now in
    let cut = c.split_ended_line.ensures.cut in
    elim c.if-is_comment.branch [
      | then-is_comment w ↦ rw w.text-is (begins_with_comment bytes line rest cut (sym w.if-is_comment.ensures))
      | else-is_comment w ↦ rw w.text-is (begins_with_text bytes line rest w.without_trailing_spaces.result.now cut (sym w.if-is_comment.ensures) w.without_trailing_spaces.ensures)
    ]
