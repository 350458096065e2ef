use Rattle.std.proofs.Common.{◌≡◌, true, take}
use Rattle.std.specs.Cmp.Lexicographic.{pointwise}
use Rattle.gix_glob.proofs.lemmas.Copies.{equal_mappings}
use Rattle.gix_glob.proofs.search.pattern.list.clone_mappings.Given as goal

-- the copies so far are equal to the mappings so far
abbrev pub invariant-mappings : goal.invariant-mappings
invariant-mappings g l = pointwise (equal_mappings g.V.PartialEq.eq) (take l.mapping-index l.mappings.items) l.copies.items ≡ true
