-- One look more.
use Rattle.std.proofs.Common.{◌≡◌, ◌∙◌, ℕ, ◌+◌, ◌-◌, ◌<◌, ◌≤◌, arith}
use Rattle.gix_glob.specs.Steps.{Counts}
use Rattle.glob_lists.specs.Private.Looking.{LooksUpTo}

-- a look at each place that is passed, from `from` down to `old`, and then at `new`
pub looks_next : (start before after : Counts) (from old new : ℕ) → LooksUpTo start before (from - old) → after.steps ≡ before.steps → after.looks ≡ before.looks + 1
    → new < old → old ≤ from → LooksUpTo start after (from - new)
looks_next start before after from old new h steps looks less low =
    let first = h.from in
    let most = h.to in record {
      steps = steps ∙ h.steps;
      from = omega arith;
      to = omega arith;
    }
