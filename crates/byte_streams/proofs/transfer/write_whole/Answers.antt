-- What a write appends joins what was written so far.
use Rattle.std.proofs.Common.{rules}
use Rattle.byte_streams.proofs.lemmas.TransferLemmas.{Appends-more, AppendsFront-at, Keeps-of_none}
use Rattle.byte_streams.proofs.transfer.write_whole.Goals as goal

pub pieces-preserved : goal.pieces-preserved
pieces-preserved g c = record {
  appended = Appends-more _ _ _ _ _ _ c.pieces.invariant.appended c.in-Ok.ensures.bytes;
  inside = search rules;
  fresh = search rules;
}

pub returns-in-Err-clause-err : goal.returns-in-Err-clause-err
returns-in-Err-clause-err g c = AppendsFront-at _ _ _ _ _ c.pieces.invariant.appended c.in-Err.ensures.bytes

pub returns-in-Ok-eq0-clause-err : goal.returns-in-Ok-eq0-clause-err
returns-in-Ok-eq0-clause-err g c = AppendsFront-at _ _ _ _ _ c.pieces.invariant.appended (Keeps-of_none _ _ (rw c.in-Ok-eq0.field-0-test at c.in-Ok-eq0.ensures.bytes))
