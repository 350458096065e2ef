use Rattle.std.proofs.Common.{map, take}
use Rattle.glob_attributes.specs.Private.Filling.{seen_entry}
use Rattle.glob_attributes.specs.Private.Firsts.{AreFirst}
use Rattle.glob_attributes.proofs.first_places.first_places.Given as goal

-- the places are those of the assignments so far
abbrev pub invariant-places : goal.invariant-places
invariant-places l = AreFirst (map seen_entry l.filled) (take l.i (map seen_entry l.filled)) l.places
