-- Each byte is passed over; the line feed, or the end, leads back between the items.
use Rattle.std.proofs.Common.{arith, ℕ, Some, sym, ap, ◌∙◌}
use Rattle.git_config.specs.Grammar.{before, before_zero, between, entry_of, in_comment, in_tail, read, text_of}
use Rattle.git_config.proofs.lemmas.ReadLemmas.{at_end, end_between, gives_byte, goes_byte}
use Rattle.git_config.proofs.lemmas.TurnLemmas.{comment-byte, comment-feed, same_line, tail-byte, tail-feed}
use Rattle.git_config.proofs.text.Text.skip_comment.Goals as goal

pub returns-then-byte-eq10-clause-between : goal.returns-then-byte-eq10-clause-between
returns-then-byte-eq10-clause-between c =
    c.bytes.invariant.comment ∙ goes_byte in_comment between c.in-Some.ensures (comment-feed c.bytes.self.line c.in-Some.byte c.if-byte-eq10.true)

pub returns-then-byte-eq10-clause-tail : goal.returns-then-byte-eq10-clause-tail
returns-then-byte-eq10-clause-tail c = λ name bytes.
    let rest = read (text_of c.take_byte.new.self.rest.now) c.take_byte.new.self.line between in
    c.bytes.invariant.tail name bytes
    ∙ gives_byte (in_tail name bytes) (entry_of name (Some (before_zero bytes)) c.bytes.self.line) c.in-Some.ensures (tail-feed c.bytes.self.line c.in-Some.byte name bytes c.if-byte-eq10.true)
    ∙ ap (λ line. before (entry_of name (Some (before_zero bytes)) line) rest) c.bytes.invariant.line

pub bytes-preserved : goal.bytes-preserved
bytes-preserved c =
    let line = c.bytes.self.line in let b = c.in-Some.byte in let no = c.if-byte-eq10.false in
    record {
      line = c.in-Some.ensures.line ∙ same_line line b no ∙ c.bytes.invariant.line;
      comment = c.bytes.invariant.comment ∙ goes_byte in_comment in_comment c.in-Some.ensures (comment-byte line b no);
      tail = λ name bytes. c.bytes.invariant.tail name bytes ∙ goes_byte (in_tail name bytes) (in_tail name bytes) c.in-Some.ensures (tail-byte line b name bytes no);
      fewer = omega (arith, c.in-Some.ensures.fewer, c.bytes.invariant.fewer);
    }

pub returns-clause-between : goal.returns-clause-between
returns-clause-between c = c.bytes.invariant.comment ∙ at_end in_comment c.in_default.ensures ∙ sym (end_between c.in_default.ensures)

pub returns-clause-tail : goal.returns-clause-tail
returns-clause-tail c = λ name bytes.
    let item = λ (line : ℕ). entry_of name (Some (before_zero bytes)) line in
    c.bytes.invariant.tail name bytes
    ∙ at_end (in_tail name bytes) c.in_default.ensures
    ∙ ap (λ left. before (item c.bytes.self.line) left) (sym (end_between c.in_default.ensures))
    ∙ ap (λ line. before (item line) (read (text_of c.take_byte.new.self.rest.now) c.take_byte.new.self.line between)) c.bytes.invariant.line
