use Rattle.std.proofs.Common.{◌≡◌, ◌^◌, ◌-◌, vec_len}
use Rattle.std.specs.Io.KnownBytes.{Consumes}
use Rattle.byte_streams.specs.Watched.{has_failed, inner}
use Rattle.gix_glob.proofs.search.reading.read_whole.Given as goal

-- what stands in the buffer was read, and no read failed
abbrev pub invariant-reads : goal.invariant-reads
invariant-reads g l = record {
  taken : Consumes (g.R.Read.remaining (inner l.fn.reader)) (g.R.Read.remaining (inner l.reader)) l.buf.items;
  flag : has_failed l.reader ≡ has_failed l.fn.reader;
}

abbrev pub decreases-reads : goal.decreases-reads
decreases-reads g l = 2 ^ 64 - vec_len l.buf
