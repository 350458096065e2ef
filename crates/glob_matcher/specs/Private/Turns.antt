-- What a turn of the engine with two marks, and a way back to a mark, are from a state: what they mean, and what they leave of
-- the budget.
use Rattle.std.specs.Prelude.{ℕ, ◌+◌, ◌<◌, ◌≤◌, List, length, Option, None, OnSome}
use Rattle.glob_matcher.specs.declared.wildmatch.way.Way.{Way}
use Rattle.glob_matcher.specs.declared.wildmatch.state.State.{State}
use Rattle.glob_matcher.specs.declared.wildmatch.state.Turn.{Turn}
use Rattle.glob_matcher.specs.declared.wildmatch.state.Crossing.TheVariants as crossing
use Rattle.glob_matcher.specs.Steps.{Counts, NeverFall}
use Rattle.glob_matcher.specs.Private.States.{StandsAt, IsOutcome, Resumes, ResumesLocal}
use Rattle.glob_matcher.specs.Private.Prices.{Measure, amount, amount_of}
use Rattle.glob_matcher.specs.Private.Budget.{AllowsAt, AllowsMiss, AllowsOutcome, AllowsResumed, AllowsLocal, CountsOutcome}

-- no mark is set, and so many bytes of both texts are passed
abbrev pub at_front : ℕ → State
at_front k = record { place = k; at = k; crossing = crossing.Unmet; local = None }

module _ (way : Way) (p v : List ℕ) where
  -- So many bytes at the front of both texts are passed, from the start, each by a step at least. The last byte that was tested may
  -- be one in vain, which no value without bytes has.
  pub record IsFront (passed : ℕ) (before after : Counts) : Type 0 where
    pub meaning : StandsAt way p v (at_front passed)
    pub allows : (measure : Measure) (limit : ℕ) → AllowsAt measure way p v (at_front 0) (amount_of measure before + amount measure (length v) 2) limit
        → AllowsAt measure way p v (at_front passed) (amount_of measure after) limit
    pub counted : before.steps + passed ≤ after.steps
    pub grows : NeverFall before after

  -- A turn from a state at whose token so many looks were taken already.
  pub record IsTurn (state : State) (looked : ℕ) (turn : Turn) (before after : Counts) : Type 0 where
    pub meaning : IsOutcome way p v turn
    pub allows : (measure : Measure) (spent limit : ℕ) → amount_of measure before ≤ spent + amount measure 0 looked
        → AllowsAt measure way p v state spent limit → AllowsOutcome measure way p v turn (amount_of measure after) limit
    pub progress : CountsOutcome turn before.steps after.steps
    pub grows : NeverFall before after

  -- A way back to a mark, where so much is allowed before.
  pub record IsBacktrack (allowed : Measure → ℕ → Type 0) (next : Option State) (before after : Counts) : Type 0 where
    pub meaning : Resumes way p v next
    pub allows : (measure : Measure) (limit : ℕ) → allowed measure limit → AllowsResumed measure way p v next (amount_of measure after) limit
    pub progress : OnSome next (before.steps < after.steps)
    pub grows : NeverFall before after

  -- A way back to the local mark of a state at which the token does not fit.
  pub record IsBacktrackLocal (state : State) (next : Option State) (before after : Counts) : Type 0 where
    pub meaning : ResumesLocal way p v state.crossing next
    pub allows : (measure : Measure) (limit : ℕ) → AllowsMiss measure way p v state (amount_of measure before) limit
        → AllowsLocal measure way p v state.crossing next (amount_of measure after) limit
    pub progress : OnSome next (before.steps < after.steps)
    pub grows : NeverFall before after
