-- One byte more is one byte and one pair more.
use Rattle.std.proofs.Common.{arith}
use Rattle.glob_lists.proofs.lemmas.Asks.BitLemmas.{AreHeldUpTo-more, AreHeldUpTo-one, HoldsBits-both}
use Rattle.glob_lists.proofs.asks.literals.bits_of.Goals as goal

pub bytes-init : goal.bytes-init
bytes-init c = AreHeldUpTo-one c.args.text.now

pub bytes-preserved : goal.bytes-preserved
bytes-preserved c = AreHeldUpTo-more c.args.text.now c.bytes.n c.bytes.bytes c.bytes.pairs c.pair_of.result c.pair_of.ensures c.bytes.invariant

pub returns : goal.returns
returns c =
    let all = c.bytes-test.false in
    rw (c.from.ensures, c.from-2.ensures)
    (HoldsBits-both c.args.text.now c.bytes.bytes c.bytes.pairs (omega arith) (λ j inside. c.bytes.invariant.bytes_held j (omega arith)) (λ j inside. c.bytes.invariant.pairs_held j (omega arith)))
