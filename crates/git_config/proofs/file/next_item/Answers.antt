-- Blanks and comments are passed over, up to the first byte of an item.
use Rattle.std.proofs.Common.{arith, sym, ◌∙◌}
use Rattle.git_config.specs.Grammar.{between, in_comment}
use Rattle.git_config.proofs.lemmas.ReadLemmas.{at_end, goes_byte}
use Rattle.git_config.proofs.lemmas.TurnLemmas.{between-blank, between-mark, mark-no_blank}
use Rattle.git_config.proofs.file.next_item.Goals as goal

pub bytes-preserved-then-is_mark : goal.bytes-preserved-then-is_mark
bytes-preserved-then-is_mark c =
    let line = c.bytes.text.line in let b = c.in-Some.byte in let mark = sym c.is_mark.ensures ∙ c.if-is_mark.true in
    record {
      reads = c.bytes.invariant.reads ∙ goes_byte between in_comment c.in-Some.ensures (between-mark line b (mark-no_blank b mark) mark) ∙ c.skip_comment.ensures.between;
      fewer = omega (arith, c.in-Some.ensures.fewer, c.bytes.invariant.fewer, c.skip_comment.ensures.fewer);
    }

pub bytes-preserved : goal.bytes-preserved
bytes-preserved c =
    record {
      reads = c.bytes.invariant.reads ∙ goes_byte between between c.in-Some.ensures (between-blank c.bytes.text.line c.in-Some.byte (sym c.is_blank.ensures ∙ c.if-not-is_blank.false));
      fewer = omega (arith, c.in-Some.ensures.fewer, c.bytes.invariant.fewer);
    }

pub returns-clause-reads : goal.returns-clause-reads
returns-clause-reads c = c.bytes.invariant.reads ∙ at_end between c.in_default.ensures
