use Rattle.std.proofs.Common.{◌≡◌, ◌≤◌, [], false, length}
use Rattle.byte_streams.specs.Watched.{has_failed, inner}
use Rattle.byte_streams.specs.Records.{HasNo}
use Rattle.byte_streams.specs.Progress.{held}
use Rattle.byte_streams.specs.Private.Pulling.{HoldsSome}
use Rattle.byte_streams.proofs.lemmas.PullLemmas.{IsReading}
use Rattle.byte_streams.proofs.records.Records.read_on.Given as goal

-- the record doesn't end in what was read
abbrev pub invariant-pieces : goal.invariant-pieces
invariant-pieces g l = record {
  readable : has_failed l.reader ≡ false;
  unended : l.self.is_ended ≡ false;
  some : HoldsSome l.self;
  none : held l.self ≡ [];
  end : l.self.end ≡ l.fn.self.end;
  piece : length l.self.piece ≡ length l.fn.self.piece;
  fewer : l.self.reads_left ≤ l.fn.self.reads_left;
  begun : HasNo l.fn.self.end l.bytes.items;
  reading : IsReading l.fn.bytes.items l.bytes.items (g.R.Read.remaining (inner l.fn.reader)) (g.R.Read.remaining (inner l.reader)) l.fn.self.reads_left l.self.reads_left;
}

abbrev pub decreases-pieces : goal.decreases-pieces
decreases-pieces g l = l.self.reads_left
