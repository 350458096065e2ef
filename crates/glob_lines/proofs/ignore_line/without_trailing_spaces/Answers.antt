-- A backslash that escapes what follows it keeps one space.
use Rattle.std.proofs.Common.{sym}
use Rattle.glob_lines.proofs.lemmas.TrimLemmas.{Trims-closed, Trims-open, Trims-whole}
use Rattle.glob_lines.proofs.ignore_line.without_trailing_spaces.Goals.{else-front-line-via-then-front-line+else-escapes_the_next, else-front-line-via-else-front-line}
use Rattle.glob_lines.proofs.ignore_line.without_trailing_spaces.Goals as goal

pub returns-then-escapes_the_next : goal.returns-then-escapes_the_next
returns-then-escapes_the_next c =
    Trims-open c.args.line.now c.without_trailing-front.result.now c.without_trailing-front.ensures c.if-front-line.true (sym c.if-escapes_the_next.ensures)

pub returns-else-front-line : goal.returns-else-front-line
returns-else-front-line c =
    let line = c.args.line.now in
    let front = c.without_trailing-front.result.now in
    elim c.else-front-line.branch [
      | else-front-line-via-then-front-line+else-escapes_the_next w ↦ Trims-closed line front c.without_trailing-front.ensures (sym w.if-escapes_the_next.ensures)
      | else-front-line-via-else-front-line w ↦ Trims-whole line front c.without_trailing-front.ensures w.if-front-line.false
    ]
