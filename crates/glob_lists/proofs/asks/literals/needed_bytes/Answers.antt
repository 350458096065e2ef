-- Each byte that stands for itself adds its bit; no set and no escape began before.
use Rattle.std.proofs.Common.{◌+◌, ◌∙◌, List, ℕ, get_or, sym}
use Rattle.glob_lists.specs.Private.Asks.Literals.{bit_of}
use Rattle.glob_lists.proofs.lemmas.Asks.BitLemmas.{IsReadUpTo, IsReadUpTo-more, IsReadUpTo-none, IsReadUpTo-past, with_bit}
use Rattle.glob_lists.proofs.asks.literals.needed_bytes.Goals as goal
use Rattle.glob_lists.proofs.asks.literals.needed_bytes.Goals.{then-not-is_joining, else-not-is_joining}

pub loop-byte-init : goal.loop-byte-init
loop-byte-init c = IsReadUpTo-none c.args.text.now

pub returns-then-is_opening : goal.returns-then-is_opening
returns-then-is_opening c = c.loop-byte.invariant.needs

pub loop-byte-preserved : goal.loop-byte-preserved
loop-byte-preserved c =
    let text : List ℕ = c.args.text.now in
    let k : ℕ = c.loop-byte.byte-index in
    let opens = sym c.is_opening.ensures ∙ c.if-is_opening.false in
    elim c.if-not-is_joining.branch [
      | then-not-is_joining w ↦
          let grown : IsReadUpTo text (k + 1) (with_bit c.loop-byte.bits (bit_of (get_or text k 0))) =
          IsReadUpTo-more text k c.loop-byte.bits c.loop-byte-test.true opens (sym c.is_joining.ensures ∙ w.if-not-is_joining.true) c.loop-byte.invariant in
          rw (w.bits-is, w.bit_of-bits.ensures) grown
      | else-not-is_joining w ↦ rw w.bits-is (IsReadUpTo-past text k c.loop-byte.bits opens c.loop-byte.invariant)
    ]

pub returns : goal.returns
returns c = c.loop-byte.invariant.needs
