use Rattle.std.proofs.Common.{◌≡◌, map, take}
use Rattle.git_index.specs.Entries.{tracked}
use Rattle.git_index.proofs.sorted.sorted.Given as goal

-- the entries so far, in their order
abbrev pub invariant-loop-entry : goal.invariant-loop-entry
invariant-loop-entry l = map tracked l.sorted.items ≡ take l.entry-index (map tracked l.entries)
