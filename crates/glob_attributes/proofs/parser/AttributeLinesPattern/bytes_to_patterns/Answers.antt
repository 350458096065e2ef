-- Each line has its number; one that gives a pattern has an entry, and another line none.
use Rattle.std.proofs.Common.{◌+◌, ◌∙◌, length, ap, refl, subst, sym, arith}
use Rattle.glob_attributes.specs.Equations.Files.{entry_given}
use Rattle.glob_attributes.specs.Patterns.{IsPatternAs}
use Rattle.glob_attributes.specs.Views.{seen_reading}
use Rattle.gix_glob.specs.PatternParts.{mode_of, place_of, text_of}
use Rattle.glob_attributes.proofs.lemmas.FileLemmas.{Assigning, entry_given-other, file_lines_shorter, lines_of-rest, meant-other, meant-pattern, pattern_of-is}
use Rattle.glob_attributes.proofs.parser.AttributeLinesPattern.bytes_to_patterns.Goals as goal

pub overflow_add-number : goal.overflow_add-number
overflow_add-number c = omega (arith, file_lines_shorter c.args.bytes.now, ap length (lines_of-rest _ _ _ c.in-Some.ensures.line))

pub lines-preserved-in_ok-push : goal.lines-preserved-in_ok-push
lines-preserved-in_ok-push c =
    let lines = lines_of-rest _ _ _ c.in-Some.ensures.line in
    let pattern = c.in_ok-read_pattern.field-0 in
    let mapping : Assigning = record { pattern = pattern; value = c.in-Pattern.assignments; sequence_number = c.lines.number + 1 } in
    let is : IsPatternAs c.args.self.now.reading c.in-Pattern.pattern.items (text_of pattern) (mode_of pattern) (place_of pattern) =
    subst (λ b. IsPatternAs c.args.self.now.reading b (text_of pattern) (mode_of pattern) (place_of pattern)) c.deref.ensures.value c.in_ok-read_pattern.ensures in
    record {
      counted = omega (arith, ap length lines);
      meant = meant-pattern c.args.self.now.reading _ _ mapping (c.lines.number + 1) _ _ c.in-Some.line.now c.in-Pattern.pattern.items _ c.in_ok-push.ensures.items lines
          (sym c.in_ok-pattern.ensures ∙ ap seen_reading c.in-Pattern.is) refl
          (pattern_of-is (record { some = c.readings_are_these.ensures.some; none = c.readings_are_these.ensures.none; git = c.git_readings_are_these.ensures }) c.args.self.now.reading _ _ _ _ is) c.lines.invariant.meant;
    }

pub lines-preserved : goal.lines-preserved
lines-preserved c =
    let lines = lines_of-rest _ _ _ c.in-Some.ensures.line in
    let none = ap (entry_given c.args.self.now.reading (c.lines.number + 1)) (sym c.in_ok-pattern.ensures) ∙ entry_given-other c.args.self.now.reading (c.lines.number + 1) c.in_ok-pattern.field-0 c.in_default-2.not-Pattern in
    record {
      counted = omega (arith, ap length lines);
      meant = meant-other c.args.self.now.reading _ (c.lines.number + 1) _ _ c.in-Some.line.now _ lines none c.lines.invariant.meant;
    }
