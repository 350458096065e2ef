-- What a write appends joins what was told so far.
use Rattle.std.proofs.Common.{rules}
use Rattle.byte_streams.proofs.lemmas.TransferLemmas.{Appends-more}
use Rattle.globline.proofs.words.tell_usage.Goals as goal

pub pieces-preserved : goal.pieces-preserved
pieces-preserved g c = record {
  usage = c.pieces.invariant.usage;
  appended = Appends-more _ _ _ _ _ _ c.pieces.invariant.appended c.in-Ok.ensures.bytes;
  inside = search rules;
}
