use Rattle.std.proofs.Common.{◌≡◌, ℕ, ◌<◌, Some, slice_index_or}
use Rattle.std.specs.Prelude.{slice_get}
use Rattle.pathspecs.specs.Elements.{PathspecItem}
use Rattle.pathspecs.specs.Private.Asking.{Says}
use Rattle.pathspecs.proofs.lists.some_says.Given as goal

-- none so far answers so
abbrev pub invariant-places : goal.invariant-places
invariant-places l = (k place : ℕ) → k < l.place-index → slice_index_or l.places k place ≡ place → ¬ ((item : PathspecItem) × (slice_get l.elements place ≡ Some item) × Says l.asked item l.path)
