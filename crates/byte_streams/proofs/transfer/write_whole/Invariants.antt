use Rattle.std.proofs.Common.{◌≡◌, ◌≤◌, ◌-◌, false, length, take}
use Rattle.std.specs.Io.KnownBytes.{Appends}
use Rattle.byte_streams.specs.Watched.{has_failed, inner}
use Rattle.byte_streams.proofs.transfer.write_whole.Given as goal

-- the text was written up to the place, and no write failed
abbrev pub invariant-pieces : goal.invariant-pieces
invariant-pieces g l = record {
  appended : Appends (g.W.Write.contents (inner l.fn.writer)) (g.W.Write.contents (inner l.writer)) (take l.at l.text);
  inside : l.at ≤ length l.text;
  fresh : has_failed l.writer ≡ false;
}

abbrev pub decreases-pieces : goal.decreases-pieces
decreases-pieces g l = length l.text - l.at
