-- Each line has its number; one that gives no text has no entry, and another the entry of its text.
use Rattle.std.proofs.Common.{◌+◌, length, ap, arith}
use Rattle.glob_lines.specs.Equations.GitLines.{git_content, git_reading}
use Rattle.glob_lines.proofs.lemmas.EntriesLemmas.{meant-more}
use Rattle.glob_lines.proofs.lemmas.GitLineLemmas.{git_content-is, length-git_lines-le}
use Rattle.glob_lines.proofs.lemmas.LinesLemmas.{first_line_cut}
use Rattle.glob_lines.proofs.ignore.GitIgnoreLinesPattern.bytes_to_patterns.Goals as goal

pub push_git_line-requires : goal.push_git_line-requires
push_git_line-requires c =
    let first = c.in-Some.ensures.line in
    omega (arith, length-git_lines-le c.args.bytes.now, ap length (first_line_cut _ _ _ first.cut))

pub lines-preserved : goal.lines-preserved
lines-preserved c =
    let next = c.push_git_line.ensures.lines in
    let first = c.in-Some.ensures.line in
    let lines = first_line_cut _ _ _ first.cut in
    record {
      counted = omega (arith, ap length lines, next);
      meant = rw next (meant-more (λ _. tt) git_reading git_content _ _ (c.lines.read.lines + 1) _ _ first.line _ tt _ c.in_ok-push_git_line.ensures.entry lines
          (git_content-is first.line _ first.gives) c.lines.invariant.meant);
    }
