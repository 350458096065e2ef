-- Looks that are counted where no step is.
use Rattle.std.specs.Prelude.{◌≡◌, ℕ, ◌+◌, ◌≤◌}
use Rattle.gix_glob.specs.Steps.{Counts}

-- no step was counted, and at most so many looks
pub record LooksUpTo (before after : Counts) (most : ℕ) : Type 0 where
  pub steps : after.steps ≡ before.steps
  pub from : before.looks ≤ after.looks
  pub to : after.looks ≤ before.looks + most
