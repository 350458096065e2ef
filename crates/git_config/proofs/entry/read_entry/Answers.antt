-- Each byte of the name goes to the name, up to the equals sign or the end of the line.
use Rattle.std.proofs.Common.{arith, ◌∷◌, ◌++◌, [], Bool, ℕ, List, None, false, true, sym, ap, ◌∙◌}
use Rattle.std.specs.Char.{to_ascii_lowercase}
use Rattle.git_config.specs.declared.fault.Wrong.TheVariants.{Name}
use Rattle.git_config.specs.Grammar.{before, between, entry_of, in_name, in_value, is_name_byte, no_part, read, text_of}
use Rattle.git_config.proofs.lemmas.ReadLemmas.{at_end, end_between, fails_byte, gives_byte, goes_byte, placed}
use Rattle.git_config.proofs.lemmas.TurnLemmas.{name-byte, name-equals, name-fails, name-feed, name-gap, not_ended}
use Rattle.git_config.proofs.entry.read_entry.Goals as goal

pub bytes-init : goal.bytes-init
bytes-init c = record {
  reads = placed (text_of c.args.text.now.rest.now) c.args.text.now.line (in_name false) (sym (c.in_ok-push.ensures.items ∙ ap (λ (front : List ℕ). front ++ c.to_ascii_lowercase.result ∷ []) c.new-name.ensures.items ∙ ap (λ (b : ℕ). b ∷ []) c.to_ascii_lowercase.ensures.value));
  fewer = omega arith;
}

pub returns-in_default-clause-reads : goal.returns-in_default-clause-reads
returns-in_default-clause-reads c =
    let name = c.bytes.name.items in let line = c.bytes.text.line in
    c.bytes.invariant.reads ∙ at_end (in_name c.bytes.ended name) c.in_default.ensures
    ∙ ap (λ left. before (entry_of name None line) left) (sym (end_between c.in_default.ensures))
    ∙ ap (λ i. before i (read (text_of c.take_byte.new.self.rest.now) c.take_byte.new.self.line between)) (sym c.without_value.ensures)

pub returns-then-byte-eq10-clause-reads : goal.returns-then-byte-eq10-clause-reads
returns-then-byte-eq10-clause-reads c =
    let name = c.bytes.name.items in let line = c.bytes.text.line in
    c.bytes.invariant.reads
    ∙ gives_byte (in_name c.bytes.ended name) (entry_of name None line) c.in-Some.ensures (name-feed line c.in-Some.byte c.bytes.ended name c.if-byte-eq10.true)
    ∙ ap (λ i. before i (read (text_of c.take_byte.new.self.rest.now) c.take_byte.new.self.line between)) (sym c.without_value-then-byte-eq10.ensures)

pub returns-then-byte-eq61-clause-reads : goal.returns-then-byte-eq61-clause-reads
returns-then-byte-eq61-clause-reads c =
    let name = c.bytes.name.items in
    let is = c.bytes.invariant.reads
    ∙ goes_byte (in_name c.bytes.ended name) (in_value name no_part) c.in-Some.ensures (name-equals c.bytes.text.line c.in-Some.byte c.bytes.ended name c.if-byte-eq61.true) in
    rw is c.read_value.ensures.reads

pub bytes-preserved-then-is_gap : goal.bytes-preserved-then-is_gap
bytes-preserved-then-is_gap c =
    let name = c.bytes.name.items in
    record {
      reads = c.bytes.invariant.reads
          ∙ goes_byte (in_name c.bytes.ended name) (in_name true name) c.in-Some.ensures
          (name-gap c.bytes.text.line c.in-Some.byte c.bytes.ended name c.if-byte-eq10.false c.if-byte-eq61.false (sym c.is_gap.ensures ∙ c.if-is_gap.true));
      fewer = omega (arith, c.in-Some.ensures.fewer, c.bytes.invariant.fewer);
    }

pub bytes-preserved : goal.bytes-preserved
bytes-preserved c =
    let name = c.bytes.name.items in let b = c.in-Some.byte in let new = c.take_byte.new.self in
    let on = sym c.goes_on.ensures ∙ c.if-goes_on.true in
    record {
      reads = c.bytes.invariant.reads
          ∙ goes_byte (in_name c.bytes.ended name) (in_name false (name ++ to_ascii_lowercase b ∷ [])) c.in-Some.ensures
          (name-byte c.bytes.text.line b c.bytes.ended name c.if-byte-eq10.false c.if-byte-eq61.false (sym c.is_gap.ensures ∙ c.if-is_gap.false) on)
          ∙ placed (text_of new.rest.now) new.line (in_name false) (sym (c.in_ok-push-2.ensures.items ∙ ap (λ (low : ℕ). name ++ low ∷ []) c.to_ascii_lowercase-then-goes_on.ensures.value))
          ∙ placed (text_of new.rest.now) new.line (λ (q : Bool). in_name q c.push-then-goes_on.new.self.items) (sym (not_ended (is_name_byte b) c.bytes.ended on));
      fewer = omega (arith, c.in-Some.ensures.fewer, c.bytes.invariant.fewer);
    }

pub returns-else-goes_on-clause-reads : goal.returns-else-goes_on-clause-reads
returns-else-goes_on-clause-reads c =
    let name = c.bytes.name.items in
    c.bytes.invariant.reads
    ∙ fails_byte (in_name c.bytes.ended name) Name c.bytes.text.line c.in-Some.ensures
    (name-fails c.bytes.text.line c.in-Some.byte c.bytes.ended name c.if-byte-eq10.false c.if-byte-eq61.false (sym c.is_gap.ensures ∙ c.if-is_gap.false) (sym c.goes_on.ensures ∙ c.if-goes_on.false))
