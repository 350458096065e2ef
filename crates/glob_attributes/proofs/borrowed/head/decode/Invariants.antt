use Rattle.std.proofs.Common.{◌≡◌, length, take}
use Rattle.std.specs.Prelude.{option_map}
use Rattle.glob_attributes.specs.Equations.Heads.{quoted_from, with_front}
use Rattle.glob_attributes.proofs.borrowed.head.decode.Given as goal

-- the bytes so far stand before those of the rest
abbrev pub invariant-loop-place : goal.invariant-loop-place
invariant-loop-place l = record {
  read : option_map (with_front (take l.place l.head)) (quoted_from 0 l.rest) ≡ quoted_from 0 l.quoted;
  long : length l.head ≡ length l.fn.head;
}
