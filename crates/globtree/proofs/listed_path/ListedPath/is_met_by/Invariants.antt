use Rattle.std.proofs.Common.{◌≡◌, ℕ, ◌<◌, slice_index_or}
use Rattle.pathspecs.specs.Elements.{PathspecItem}
use Rattle.globtree.specs.Listed.{MeetsListed, seen_listed}
use Rattle.globtree.proofs.listed_path.ListedPath.is_met_by.Given as goal

-- no element so far meets the path
abbrev pub invariant-elements : goal.invariant-elements
invariant-elements l =
    (k : ℕ) (item : PathspecItem) → k < l.element-index → slice_index_or l.elements k item ≡ item → ¬ ((item.magic.exclude ≡ l.exclude) × MeetsListed item (seen_listed l.self))
