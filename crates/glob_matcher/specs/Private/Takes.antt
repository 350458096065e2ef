-- What a function of the engine with two marks takes.
use Rattle.std.specs.Prelude.{◌≡◌, ℕ, ◌+◌, ◌≤◌, Option, None, Some}
use Rattle.glob_matcher.specs.Steps.{Counts}

-- from one state of the counts to another: s steps, and at most l looks; no count falls
pub record Takes (before after : Counts) (s l : ℕ) : Type 0 where
  pub steps : after.steps ≡ before.steps + s
  pub looks : after.looks ≤ before.looks + l
  pub low : before.looks ≤ after.looks

-- the same, with exactly l looks
pub record TakesExactly (before after : Counts) (s l : ℕ) : Type 0 where
  pub steps : after.steps ≡ before.steps + s
  pub looks : after.looks ≡ before.looks + l

-- the looks at a place: one where there is a byte, and none where there isn't
abbrev pub looks_at : Option ℕ → ℕ
looks_at None = 0
looks_at (Some byte) = 1
