-- Each byte of the name goes to the name, up to the bracket or a blank.
use Rattle.std.proofs.Common.{arith, ◌∷◌, ◌++◌, [], ◌∙◌, ℕ, List, length, not, ap, sym}
use Rattle.std.specs.Prelude.{◌&&◌, ◌==◌}
use Rattle.std.specs.Char.{to_ascii_lowercase}
use Rattle.git_config.specs.declared.fault.Wrong.TheVariants.{Head}
use Rattle.git_config.specs.declared.item.Item.TheVariants.{Section}
use Rattle.git_config.specs.Grammar.{between, in_gap, in_head, read, text_of}
use Rattle.git_config.proofs.lemmas.ReadLemmas.{at_end, begun, fails_byte, gives_byte, goes_byte, placed}
use Rattle.git_config.proofs.lemmas.TurnLemmas.{head-end, head-fails, head-name, head-space}
use Rattle.git_config.proofs.head.read_head.Goals as goal

pub returns-in_default-clause-reads : goal.returns-in_default-clause-reads
returns-in_default-clause-reads c = c.bytes.invariant.reads ∙ at_end (in_head c.bytes.name.items) c.in_default.ensures

pub bytes-preserved : goal.bytes-preserved
bytes-preserved c =
    let line = c.bytes.text.line in let b = c.in-Some.byte in let name = c.bytes.name.items in let new = c.take_byte.new.self in
    record {
      reads = c.bytes.invariant.reads
          ∙ goes_byte (in_head name) (in_head (name ++ to_ascii_lowercase b ∷ [])) c.in-Some.ensures (head-name line b name (sym c.is_head_byte.ensures ∙ c.if-is_head_byte.true))
          ∙ placed (text_of new.rest.now) new.line in_head (sym (c.in_ok-push.ensures.items ∙ ap (λ (low : ℕ). name ++ low ∷ []) c.to_ascii_lowercase.ensures.value));
      fewer = omega (arith, c.in-Some.ensures.fewer, c.bytes.invariant.fewer);
    }

pub returns-then-is_space-clause-reads : goal.returns-then-is_space-clause-reads
returns-then-is_space-clause-reads c =
    let line = c.bytes.text.line in let b = c.in-Some.byte in let name = c.bytes.name.items in
    let is = c.bytes.invariant.reads ∙ goes_byte (in_head name) (in_gap name) c.in-Some.ensures
    (head-space line b name (sym c.is_head_byte.ensures ∙ c.if-is_head_byte.false) (sym c.is_space.ensures ∙ c.if-is_space.true)) in
    rw is c.read_gap.ensures.reads

pub returns-then-ends_head-clause-reads : goal.returns-then-ends_head-clause-reads
returns-then-ends_head-clause-reads c =
    let line = c.bytes.text.line in let b = c.in-Some.byte in let name = c.bytes.name.items in let new = c.take_byte.new.self in
    c.bytes.invariant.reads
    ∙ gives_byte (in_head name) (Section (name ++ 46 ∷ [])) c.in-Some.ensures
    (head-end line b name (sym c.is_head_byte.ensures ∙ c.if-is_head_byte.false) (sym c.is_space.ensures ∙ c.if-is_space.false)
    (ap (λ (text : List ℕ). b == 93 && not (length text == 0)) (sym c.deref.ensures.value) ∙ sym c.ends_head.ensures ∙ c.if-ends_head.true))
    ∙ begun Section (read (text_of new.rest.now) new.line between) (sym c.in_ok-push-2.ensures.items)

pub returns-else-ends_head-clause-reads : goal.returns-else-ends_head-clause-reads
returns-else-ends_head-clause-reads c =
    let line = c.bytes.text.line in let b = c.in-Some.byte in let name = c.bytes.name.items in
    c.bytes.invariant.reads
    ∙ fails_byte (in_head name) Head line c.in-Some.ensures
    (head-fails line b name (sym c.is_head_byte.ensures ∙ c.if-is_head_byte.false) (sym c.is_space.ensures ∙ c.if-is_space.false)
    (ap (λ (text : List ℕ). b == 93 && not (length text == 0)) (sym c.deref.ensures.value) ∙ sym c.ends_head.ensures ∙ c.if-ends_head.false))
