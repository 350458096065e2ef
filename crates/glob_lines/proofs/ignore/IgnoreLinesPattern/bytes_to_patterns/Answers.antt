-- Each line has its number; one that gives no text has no entry, and another the entry of its text.
use Rattle.std.proofs.Common.{◌+◌, length, ap, arith}
use Rattle.glob_lines.specs.Equations.Entries.{line_reading}
use Rattle.glob_lines.specs.Equations.Ignore.{ignore_content}
use Rattle.glob_lines.proofs.lemmas.EntriesLemmas.{meant-more}
use Rattle.glob_lines.proofs.lemmas.IgnoreLemmas.{BeginsWithLine-lines, ignore_content-is, length-ignore_lines-le}
use Rattle.glob_lines.proofs.ignore.IgnoreLinesPattern.bytes_to_patterns.Goals as goal

pub push_line-requires : goal.push_line-requires
push_line-requires c =
    let first = c.in-Some.ensures.line in
    omega (arith, length-ignore_lines-le c.args.bytes.now, ap length (BeginsWithLine-lines _ _ _ first))

pub lines-preserved : goal.lines-preserved
lines-preserved c =
    let next = c.push_line.ensures.lines in
    let first = c.in-Some.ensures.line in
    let lines = BeginsWithLine-lines _ _ _ first in
    record {
      counted = omega (arith, ap length lines, next);
      meant = rw next (meant-more (λ _. tt) line_reading ignore_content _ _ (c.lines.read.lines + 1) _ _ first.line _ tt _ c.in_ok-push_line.ensures.entry lines
          (ignore_content-is first.line _ first.gives) c.lines.invariant.meant);
    }
