-- One byte more is one number more.
use Rattle.std.proofs.Common.{arith}
use Rattle.glob_lists.proofs.lemmas.Asks.EndNumbers.{IsPadded-more, IsPadded-none, IsPadded-whole}
use Rattle.glob_lists.proofs.asks.literals.padded_end.Goals as goal

pub bytes-init : goal.bytes-init
bytes-init c = IsPadded-none c.args.text.now

pub bytes-preserved : goal.bytes-preserved
bytes-preserved c =
    IsPadded-more c.args.text.now c.bytes.n c.bytes.key c.from_end.result c.longer_key-key.result (omega arith) (omega arith) c.from_end.ensures c.longer_key-key.ensures c.bytes.invariant

pub returns : goal.returns
returns c = IsPadded-whole c.args.text.now c.bytes.n c.bytes.key (omega arith) (omega arith) c.bytes.invariant
