use Rattle.std.proofs.Common.{◌≡◌, ◌≤◌, ◌+◌, ◌-◌, ℕ, List, drop, length}
use Rattle.std.specs.Prelude.{option_map}
use Rattle.glob_attributes.specs.Equations.Heads.{quoted_from, with_front}
use Rattle.glob_attributes.proofs.borrowed.head.measure.Given as goal

-- so many bytes stand before those of the rest, and each took one byte of the text or more
abbrev pub invariant-units : goal.invariant-units
invariant-units l = record {
  read : (front : List ℕ) × (length front ≡ l.count) × (option_map (with_front front) (quoted_from 0 (drop l.place l.text)) ≡ quoted_from 0 (drop 1 l.text));
  inside : l.place ≤ length l.text;
  short : l.count + 1 ≤ l.place;
}

abbrev pub decreases-units : goal.decreases-units
decreases-units l = length l.text - l.place
