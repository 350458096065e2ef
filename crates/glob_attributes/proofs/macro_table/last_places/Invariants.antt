use Rattle.std.proofs.Common.{map, take}
use Rattle.glob_attributes.specs.Views.{seen_macro}
use Rattle.glob_attributes.specs.Private.Filling.{HasLastPlaces}
use Rattle.glob_attributes.proofs.macro_table.last_places.Given as goal

-- the places of the macros so far
abbrev pub invariant-macros : goal.invariant-macros
invariant-macros l = HasLastPlaces l.places (take l.place (map seen_macro l.macros))
