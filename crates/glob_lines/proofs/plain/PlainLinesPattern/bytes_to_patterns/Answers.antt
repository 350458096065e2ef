-- Each line has its number, and its entry where it has a reading.
use Rattle.std.proofs.Common.{◌+◌, Some, length, ap, refl, arith}
use Rattle.glob_lines.specs.Equations.Plain.{plain_content}
use Rattle.glob_lines.proofs.lemmas.LinesLemmas.{length-lines_of-le}
use Rattle.glob_lines.specs.Equations.Entries.{line_reading}
use Rattle.glob_lines.proofs.lemmas.EntriesLemmas.{meant-more}
use Rattle.glob_lines.proofs.plain.PlainLinesPattern.bytes_to_patterns.Goals as goal

pub push_line-requires : goal.push_line-requires
push_line-requires c = omega (arith, length-lines_of-le c.args.bytes.now, ap length c.in-Some.ensures.steps)

pub loop-line-preserved : goal.loop-line-preserved
loop-line-preserved c =
    let next = c.push_line.ensures.lines in
    let line = c.in-Some.line.now in
    record {
      counted = omega (arith, ap length c.in-Some.ensures.steps, next);
      meant = rw next (meant-more (λ _. tt) line_reading plain_content _ _ (c.loop-line.read.lines + 1) _ _ line (Some line) tt _ c.in_ok-push_line.ensures.entry c.in-Some.ensures.steps refl c.loop-line.invariant.meant);
    }
