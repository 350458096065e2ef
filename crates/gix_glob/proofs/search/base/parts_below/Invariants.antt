use Rattle.std.proofs.Common.{◌≡◌, ◌↔◌, ℕ, List, ◌++◌, length}
use Rattle.gix_glob.specs.Paths.{parts}
use Rattle.gix_glob.specs.Private.PartsLeft.{parts_left}
use Rattle.gix_glob.proofs.search.base.parts_below.Given as goal

-- what follows the root follows what is left of the root
abbrev pub invariant-roots : goal.invariant-roots
invariant-roots l = (rest : List (List ℕ)) → (parts l.source ≡ parts l.root ++ rest) ↔ (parts_left l.below ≡ parts_left l.roots ++ rest)

abbrev pub decreases-roots : goal.decreases-roots
decreases-roots l = length (parts_left l.roots)
