use Rattle.std.proofs.Common.{◌≡◌, length, map}
use Rattle.std.specs.Prelude.{◌&&◌, ◌||◌, ◌==◌, not}
use Rattle.std.specs.List.{list_all}
use Rattle.std.specs.Vec.{vec_items}
use Rattle.git_repository.specs.Safety.{trusts}
use Rattle.git_repository.proofs.safety.trusts.Given as goal

-- what is left decides, or else the values so far, where no empty one is left
abbrev pub invariant-values : goal.invariant-values
invariant-values l =
    trusts l.path (map vec_items l.values) ≡ (trusts l.path (map vec_items l.rest) || (l.trusted && list_all (λ other. not (length other == 0)) (map vec_items l.rest)))

abbrev pub decreases-values : goal.decreases-values
decreases-values l = length l.rest
