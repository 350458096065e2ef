-- One byte more is one bit more.
use Rattle.std.proofs.Common.{arith}
use Rattle.glob_lists.proofs.lemmas.Asks.BitLemmas.{holds_more}
use Rattle.glob_lists.proofs.asks.literals.bytes_of.Goals as goal

pub loop-byte-preserved : goal.loop-byte-preserved
loop-byte-preserved c = holds_more c.args.text.now c.loop-byte.byte-index c.loop-byte.bits c.loop-byte.invariant

pub returns : goal.returns
returns c = λ j inside some. rw (← c.from.ensures) at (c.loop-byte.invariant j (let all = c.loop-byte-test.false in omega arith))
