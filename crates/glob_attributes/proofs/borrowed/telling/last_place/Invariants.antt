use Rattle.std.proofs.Common.{◌≡◌, ◌<◌, length, map, take}
use Rattle.std.specs.Prelude.{IfSome}
use Rattle.glob_attributes.specs.Borrowed.{definition_of}
use Rattle.glob_attributes.specs.Private.Filling.{last_place}
use Rattle.glob_attributes.proofs.borrowed.telling.last_place.Given as goal

-- the place of the last one so far
abbrev pub invariant-loop-place : goal.invariant-loop-place
invariant-loop-place l = record {
  last : l.found ≡ last_place l.name (take l.place (map definition_of l.macros));
  inside : IfSome l.found (λ place. place < length l.macros);
}
