-- Each line has its number, and its entry where what stands before its tab has a reading.
use Rattle.std.proofs.Common.{◌+◌, Some, length, ap, arith}
use Rattle.std.specs.Vec.{vec_items}
use Rattle.glob_lines.specs.Equations.Label.{label_content}
use Rattle.glob_lines.proofs.lemmas.LabelLemmas.{label_content-label}
use Rattle.glob_lines.proofs.lemmas.LinesLemmas.{length-lines_of-le}
use Rattle.glob_lines.specs.Equations.Entries.{line_reading}
use Rattle.glob_lines.proofs.lemmas.EntriesLemmas.{meant-more}
use Rattle.glob_lines.proofs.label.LabelLinesPattern.bytes_to_patterns.Goals as goal

pub push_line-requires : goal.push_line-requires
push_line-requires c = omega (arith, length-lines_of-le c.args.bytes.now, ap length c.in-Some.ensures.steps)

pub loop-line-preserved : goal.loop-line-preserved
loop-line-preserved c =
    let next = c.push_line.ensures.lines in
    let line = c.in-Some.line.now in
    let text = c.split_label.result.0.now in
    let label = c.in_ok-label.label in
    record {
      counted = omega (arith, ap length c.in-Some.ensures.steps, next);
      meant = rw next (meant-more vec_items line_reading label_content _ _ (c.loop-line.read.lines + 1) _ _ line (Some text) label _ c.in_ok-push_line.ensures.entry c.in-Some.ensures.steps
          (label_content-label line text c.split_label.result.1.now label.items c.split_label.ensures c.in_ok-label.ensures.items) c.loop-line.invariant.meant);
    }
