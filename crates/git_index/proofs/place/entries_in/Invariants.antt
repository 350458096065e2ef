use Rattle.std.proofs.Common.{◌≡◌, map, take}
use Rattle.git_index.specs.Entries.{tracked}
use Rattle.git_index.specs.Private.Places.{placed}
use Rattle.git_index.proofs.place.entries_in.Given as goal

-- those of the places so far
abbrev pub invariant-places : goal.invariant-places
invariant-places l = map tracked l.entries.items ≡ map (placed l.fn.text.items) (take l.place-index l.places)
