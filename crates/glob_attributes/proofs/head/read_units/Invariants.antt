use Rattle.std.proofs.Common.{◌≡◌, length}
use Rattle.std.specs.Prelude.{option_map}
use Rattle.glob_attributes.specs.Equations.Heads.{quoted_from, with_front}
use Rattle.glob_attributes.proofs.head.read_units.Given as goal

-- the bytes so far stand before those of the rest
abbrev pub invariant-units : goal.invariant-units
invariant-units l = option_map (with_front l.head.items) (quoted_from 0 l.rest) ≡ quoted_from 0 l.quoted

abbrev pub decreases-units : goal.decreases-units
decreases-units l = length l.rest
