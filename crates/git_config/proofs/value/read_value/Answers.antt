-- Each byte goes to the part that is read, up to the end of the line.
use Rattle.std.proofs.Common.{arith, ℕ, Some, sym, ap, ◌∙◌}
use Rattle.std.proofs.lemmas.Result.{err_from_is_err_and}
use Rattle.git_config.specs.Grammar.{Part, before, before_zero, between, entry_of, filled, in_tail, in_value, place_behind, read, text_of, with_blank}
use Rattle.git_config.specs.Private.Parts.{part_of}
use Rattle.git_config.proofs.lemmas.FailLemmas.{value_at_end, value_at_feed}
use Rattle.git_config.proofs.lemmas.PartLemmas.{with_blank-le}
use Rattle.git_config.proofs.lemmas.ReadLemmas.{at_end, begun, end_between, goes_byte, placed}
use Rattle.git_config.proofs.lemmas.TurnLemmas.{same_line, value-blank, value-byte, value-mark}
use Rattle.git_config.proofs.value.read_value.Goals as goal

pub returns-in_default-clause-reads : goal.returns-in_default-clause-reads
returns-in_default-clause-reads c =
    let name = c.args.name.items in let part = part_of c.bytes.part in
    value_at_end _ _ _ c.bytes.text.line name part (end_between c.in_default.ensures)
    (c.bytes.invariant.reads ∙ at_end (in_value name part) c.in_default.ensures) c.end_value.ensures

pub returns-then-byte-eq10-clause-reads : goal.returns-then-byte-eq10-clause-reads
returns-then-byte-eq10-clause-reads c =
    value_at_feed _ _ c.args.name.items (part_of c.bytes.part) c.in-Some.ensures c.if-byte-eq10.true c.bytes.invariant.reads c.end_value-then-byte-eq10.ensures

pub bytes-preserved-then-is_bare_blank : goal.bytes-preserved-then-is_bare_blank
bytes-preserved-then-is_bare_blank c =
    let name = c.args.name.items in let part = part_of c.bytes.part in let new = c.take_byte.new.self in
    record {
      reads = c.bytes.invariant.reads
          ∙ goes_byte (in_value name part) (in_value name (with_blank part)) c.in-Some.ensures
          (value-blank c.bytes.text.line c.in-Some.byte name part c.if-byte-eq10.false (sym c.is_bare_blank.ensures ∙ c.if-is_bare_blank.true))
          ∙ placed (text_of new.rest.now) new.line (in_value name) (sym c.add_blank.ensures);
      room = omega (arith, c.bytes.invariant.room, c.in-Some.ensures.fewer, ap (λ (p : Part). p.blanks) c.add_blank.ensures, with_blank-le part);
      fewer = omega (arith, c.in-Some.ensures.fewer, c.bytes.invariant.fewer);
    }

pub returns-then-is_bare_mark-clause-reads : goal.returns-then-is_bare_mark-clause-reads
returns-then-is_bare_mark-clause-reads c =
    let name = c.args.name.items in let part = part_of c.bytes.part in let line = c.bytes.text.line in let b = c.in-Some.byte in
    let no = c.if-byte-eq10.false in
    let rest = read (text_of c.skip_comment.new.self.rest.now) c.skip_comment.new.self.line between in
    let item = λ (at : ℕ). entry_of name (Some (before_zero part.bytes)) at in
    c.bytes.invariant.reads
    ∙ goes_byte (in_value name part) (in_tail name part.bytes) c.in-Some.ensures
    (value-mark line b name part no (sym c.is_bare_blank.ensures ∙ c.if-is_bare_blank.false) (sym c.is_bare_mark.ensures ∙ c.if-is_bare_mark.true))
    ∙ c.skip_comment.ensures.tail name part.bytes
    ∙ begun item rest (c.in-Some.ensures.line ∙ same_line line b no)
    ∙ ap (λ i. before i rest) (sym c.entry_of.ensures)

pub bytes-preserved : goal.bytes-preserved
bytes-preserved c =
    let name = c.args.name.items in let part = part_of c.bytes.part in let new = c.take_byte.new.self in let b = c.in-Some.byte in
    record {
      reads = c.bytes.invariant.reads
          ∙ goes_byte (in_value name part) (place_behind name (filled part) b) c.in-Some.ensures
          (value-byte c.bytes.text.line b name part c.if-byte-eq10.false (sym c.is_bare_blank.ensures ∙ c.if-is_bare_blank.false) (sym c.is_bare_mark.ensures ∙ c.if-is_bare_mark.false))
          ∙ placed (text_of new.rest.now) new.line (λ (p : Part). place_behind name p b) (sym c.in_ok-fill.ensures)
          ∙ c.in_ok-add_byte.ensures.reads name;
      room = omega (arith, c.in_ok-add_byte.ensures.blanks, ap (λ (p : Part). p.blanks) c.in_ok-fill.ensures, c.in_ok-add_byte.ensures.fewer, c.in-Some.ensures.fewer, c.bytes.invariant.room);
      fewer = omega (arith, c.in_ok-add_byte.ensures.fewer, c.in-Some.ensures.fewer, c.bytes.invariant.fewer);
    }

pub returns-in_err-add_byte-clause-reads : goal.returns-in_err-add_byte-clause-reads
returns-in_err-add_byte-clause-reads c =
    let name = c.args.name.items in let part = part_of c.bytes.part in let new = c.take_byte.new.self in let b = c.in-Some.byte in
    let is = c.bytes.invariant.reads
    ∙ goes_byte (in_value name part) (place_behind name (filled part) b) c.in-Some.ensures
    (value-byte c.bytes.text.line b name part c.if-byte-eq10.false (sym c.is_bare_blank.ensures ∙ c.if-is_bare_blank.false) (sym c.is_bare_mark.ensures ∙ c.if-is_bare_mark.false))
    ∙ placed (text_of new.rest.now) new.line (λ (p : Part). place_behind name p b) (sym c.in_ok-fill.ensures) in
    let p = err_from_is_err_and c.from_residual-in_err-add_byte.result c.from_residual-in_err-add_byte.ensures.1 in
    rw (p.1, p.2) (rw is (c.in_err-add_byte.ensures.reads name))
