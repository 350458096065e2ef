-- Two bytes that stand for themselves add the bit of their pair; no set and no escape began before.
use Rattle.std.proofs.Common.{◌+◌, ◌∙◌, List, ℕ, arith, get_or, sym}
use Rattle.glob_lists.specs.Private.Asks.Literals.{pair_of}
use Rattle.glob_lists.proofs.lemmas.Asks.BitLemmas.{IsReadUpTo, IsReadUpTo-none, IsReadUpTo-pair, IsReadUpTo-past, with_bit}
use Rattle.glob_lists.proofs.asks.literals.needed_pairs.Goals as goal
use Rattle.glob_lists.proofs.asks.literals.needed_pairs.Goals.{then-not-is_joining+then-not-is_joining-2, else-not-is_joining}

pub pairs-init : goal.pairs-init
pairs-init c = IsReadUpTo-none c.args.text.now

pub returns-then-is_opening : goal.returns-then-is_opening
returns-then-is_opening c = c.pairs.invariant.needs

pub pairs-preserved : goal.pairs-preserved
pairs-preserved c =
    let text : List ℕ = c.args.text.now in
    let k : ℕ = c.pairs.n in
    let opens = sym c.is_opening.ensures ∙ c.if-is_opening.false in
    elim c.if-not-is_joining.branch [
      | then-not-is_joining+then-not-is_joining-2 w ↦
          let plain = sym c.is_joining.ensures ∙ w.if-not-is_joining.true in
          let plain' = sym w.is_joining-then-not-is_joining.ensures ∙ w.if-not-is_joining-2.true in
          let grown : IsReadUpTo text (k + 1) (with_bit c.pairs.bits (32 + pair_of (get_or text k 0) (get_or text (k + 1) 0))) =
          IsReadUpTo-pair text k c.pairs.bits (omega arith) opens plain plain' c.pairs.invariant in
          rw (w.bits-is, w.pair_of.ensures) grown
      | else-not-is_joining w ↦ rw w.bits-is (IsReadUpTo-past text k c.pairs.bits opens c.pairs.invariant)
    ]

pub returns : goal.returns
returns c = c.pairs.invariant.needs
