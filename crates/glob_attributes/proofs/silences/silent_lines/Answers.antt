-- Each line has its number; one that says nothing for a reason is told, and another line isn't.
use Rattle.std.proofs.Common.{◌+◌, ◌∙◌, length, ap, sym, arith}
use Rattle.glob_attributes.specs.Views.{seen_reading}
use Rattle.glob_attributes.specs.Told.{silence_given}
use Rattle.glob_attributes.proofs.lemmas.FileLemmas.{file_lines_shorter, lines_of-rest}
use Rattle.glob_attributes.proofs.lemmas.ToldLemmas.{silence_given-other, silent-more, silent-other}
use Rattle.glob_attributes.proofs.silences.silent_lines.Goals as goal

pub overflow_add-number : goal.overflow_add-number
overflow_add-number c = omega (arith, file_lines_shorter c.args.bytes.now, ap length (lines_of-rest _ _ _ c.in-Some.ensures.line))

pub lines-preserved-in_ok-push : goal.lines-preserved-in_ok-push
lines-preserved-in_ok-push c =
    let lines = lines_of-rest _ _ _ c.in-Some.ensures.line in
    record {
      counted = omega (arith, ap length lines);
      meant = silent-more c.args.is_top _ _ _ (c.lines.number + 1) _ _ c.in-Some.line.now _ c.in_ok-push.ensures.items lines
          (ap (silence_given (c.lines.number + 1)) (sym c.in_ok-silence.ensures ∙ ap seen_reading c.in-Silent.is)) c.lines.invariant.meant;
    }

pub lines-preserved : goal.lines-preserved
lines-preserved c =
    let lines = lines_of-rest _ _ _ c.in-Some.ensures.line in
    let none = ap (silence_given (c.lines.number + 1)) (sym c.in_ok-silence.ensures) ∙ silence_given-other (c.lines.number + 1) c.in_ok-silence.field-0 c.in_default-2.not-Silent in
    record {
      counted = omega (arith, ap length lines);
      meant = silent-other c.args.is_top _ (c.lines.number + 1) _ _ c.in-Some.line.now _ lines none c.lines.invariant.meant;
    }
