use Rattle.std.proofs.Common.{◌≡◌, length, take}
use Rattle.std.specs.List.{AllZip}
use Rattle.globtree.proofs.listing.copies_of.Given as goal

-- the lists so far are copied
abbrev pub invariant-lists : goal.invariant-lists
invariant-lists l = AllZip (λ list copy. length copy.patterns.items ≡ length list.patterns.items) (take l.list-index l.lists) l.copies.items
