use Rattle.std.proofs.Common.{◌≡◌, map, take}
use Rattle.git_index.specs.Entries.{starting_with, tracked}
use Rattle.git_index.proofs.search.starting_with.Given as goal

-- those among the entries so far
abbrev pub invariant-entries : goal.invariant-entries
invariant-entries l = map tracked l.found.items ≡ starting_with l.front (map tracked (take l.entry-index l.entries))
