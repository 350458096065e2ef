use Rattle.std.proofs.Common.{◌≡◌, ◌-◌, ◌^◌, false, vec_len}
use Rattle.std.specs.Io.KnownBytes.{Consumes}
use Rattle.byte_streams.specs.Watched.{has_failed, inner}
use Rattle.glob_lines.proofs.transfer.read_whole.Given as goal

-- the bytes so far were read, and no read failed
abbrev pub invariant-pieces : goal.invariant-pieces
invariant-pieces g l = record {
  consumed : Consumes (g.R.Read.remaining (inner l.fn.reader)) (g.R.Read.remaining (inner l.reader)) l.bytes.items;
  fresh : has_failed l.reader ≡ false;
}

-- each piece makes the bytes longer
abbrev pub decreases-pieces : goal.decreases-pieces
decreases-pieces g l = 2 ^ 64 - vec_len l.bytes
