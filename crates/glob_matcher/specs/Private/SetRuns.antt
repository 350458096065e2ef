-- What a run of sets comes to, as a turn of the engine with two marks.
use Rattle.std.specs.Prelude.{ℕ, ◌<◌, List, length}
use Rattle.glob_matcher.specs.declared.wildmatch.way.Way.{Way}
use Rattle.glob_matcher.specs.declared.wildmatch.set_apart.Places.{Places}
use Rattle.glob_matcher.specs.declared.wildmatch.set_apart.SetRun.{SetRun}
use Rattle.glob_matcher.specs.declared.wildmatch.set_apart.SetRun.TheVariants as run
use Rattle.glob_matcher.specs.declared.wildmatch.state.State.{State}
use Rattle.glob_matcher.specs.declared.wildmatch.state.Turn.{Turn}
use Rattle.glob_matcher.specs.declared.wildmatch.state.Turn.TheVariants as turn
use Rattle.glob_matcher.specs.Bytes.{HasByte, open_bracket}
use Rattle.glob_matcher.specs.Steps.{Counts}
use Rattle.glob_matcher.specs.Private.States.{StandsAt}
use Rattle.glob_matcher.specs.Private.Turns.{IsTurn}

-- A bracket stands there in the pattern, and a byte in the value.
pub record MeetsBracket (p v : List ℕ) (places : Places) : Type 0 where
  pub bracket : HasByte p places.place open_bracket
  pub inside : places.at < length v

-- the state with the same marks at these places
abbrev pub moved : State → Places → State
moved state to = record state { place = to.place; at = to.at }

abbrev pub turn_of : State → SetRun → Turn
turn_of state run.Held = turn.On state
turn_of state run.Lacks = turn.Miss state
turn_of state run.Broken = turn.NoMatch

-- whatever the marks are, it is a turn from the one pair of places to the other
abbrev pub IsSetRun : Way → List ℕ → List ℕ → Places → Places → SetRun → Counts → Counts → Type 0
IsSetRun way p v from to run before after = (state : State) → StandsAt way p v (moved state from)
    → IsTurn way p v (moved state from) 1 (turn_of (moved state to) run) before after
