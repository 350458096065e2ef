-- What the functions of the engine with two marks say of its budget to one another: how much is left at a state, of its steps
-- as of its looks. After the test of the last byte, which is one step, each pair of a token and a place of the value is tested
-- at most once, since a star between two slashes of the pattern looks at one component of the value.
use Rattle.std.specs.Prelude.{◌≡◌, ℕ, ◌+◌, ◌*◌, ◌<◌, ◌≤◌, List, length, Option, Some, None}
use Rattle.glob_matcher.specs.declared.wildmatch.way.Way.{Way}
use Rattle.glob_matcher.specs.declared.wildmatch.marks.Mark.{Mark}
use Rattle.glob_matcher.specs.declared.wildmatch.state.Crossing.{Crossing}
use Rattle.glob_matcher.specs.declared.wildmatch.state.Crossing.TheVariants as crossing
use Rattle.glob_matcher.specs.declared.wildmatch.state.State.{State}
use Rattle.glob_matcher.specs.declared.wildmatch.state.Turn.{Turn}
use Rattle.glob_matcher.specs.declared.wildmatch.state.Turn.TheVariants as turn
use Rattle.glob_matcher.specs.Steps.{Counts, step_limit, look_limit}
use Rattle.glob_matcher.specs.Private.Components.{next_component}
use Rattle.glob_matcher.specs.Private.SizedTokens.{SizedToken, SizedTokensFrom}
use Rattle.glob_matcher.specs.Private.Prices.{Measure, move, first_test, places_left, cost, next_tests_at, component_cost}

-- A test at place i of the pattern, or at its end, took the count from `before` to `after` at most.
pub record IsTest (measure : Measure) (way : Way) (p : List ℕ) (i before after : ℕ) : Type 0 where
  pub high : (xs : List SizedToken) → SizedTokensFrom way p i xs → after ≤ before + first_test measure xs

module _ (measure : Measure) (way : Way) (p v : List ℕ) where
  -- What the crossing mark may still cost is at most `rest`.
  pub record FreeRest (place at rest : ℕ) : Type 0 where
    pub tokens : List SizedToken
    pub read : SizedTokensFrom way p place tokens
    pub inside : at ≤ length v
    pub skips : (k : ℕ) → next_tests_at way v tokens k ≡ k + 1
    pub enough : cost measure way v tokens (at + 1) + move measure * places_left v at ≤ rest

  pub record DirsRest (place at rest : ℕ) : Type 0 where
    pub tokens : List SizedToken
    pub read : SizedTokensFrom way p place tokens
    pub inside : at ≤ length v
    pub enough : cost measure way v tokens (next_component way v at) + move measure * places_left v at ≤ rest

  abbrev pub CrossingRest : Crossing → ℕ → Type 0
  CrossingRest crossing.Unmet rest = Unit {0}
  CrossingRest (crossing.Free m) rest = FreeRest m.place m.at rest
  CrossingRest (crossing.Dirs m) rest = DirsRest m.place m.at rest

  -- What the local mark may still cost: the count may go on from here, and from the mark.
  pub record LocalRest (xs : List SizedToken) (k rest spent limit place at : ℕ) : Type 0 where
    pub tokens : List SizedToken
    pub read : SizedTokensFrom way p place tokens
    pub inside : at ≤ length v
    pub later : cost measure way v tokens (next_component way v at) ≤ rest
    pub here : spent + cost measure way v xs k + rest ≤ limit + cost measure way v xs (next_component way v k)
    pub back : spent + cost measure way v tokens at + component_cost measure way xs + move measure * next_component way v at + rest
        ≤ limit + component_cost measure way tokens + cost measure way v tokens (next_component way v at) + move measure * at

  -- the same, where a local mark is set
  abbrev pub LocalRestIfSet : List SizedToken → ℕ → ℕ → ℕ → ℕ → Option Mark → Type 0
  LocalRestIfSet xs k rest spent limit None = Unit {0}
  LocalRestIfSet xs k rest spent limit (Some m) = LocalRest xs k rest spent limit m.place m.at

  -- The engine stands here after a count of `spent`, and it will count no more than `limit` in all.
  pub record Owes (state : State) (spent limit : ℕ) : Type 0 where
    pub tokens : List SizedToken
    pub read : SizedTokensFrom way p state.place tokens
    pub rest : ℕ
    pub crossing : CrossingRest state.crossing rest
    pub later : cost measure way v tokens (next_component way v state.at) ≤ rest
    pub here : spent + cost measure way v tokens state.at + rest ≤ limit + cost measure way v tokens (next_tests_at way v tokens state.at)
    pub local : LocalRestIfSet tokens state.at rest spent limit state.local

  -- So it is, where the pattern is read in tokens.
  pub record AllowsAt (state : State) (spent limit : ℕ) : Type 0 where
    pub all : (xs : List SizedToken) → SizedTokensFrom way p 0 xs → Owes state spent limit

  -- After a count of `spent` the crossing mark alone is left, and `limit` is enough.
  pub record OwesLeft (c : Crossing) (spent limit : ℕ) : Type 0 where
    pub rest : ℕ
    pub crossing : CrossingRest c rest
    pub enough : spent + rest ≤ limit

  pub record AllowsLeft (c : Crossing) (spent limit : ℕ) : Type 0 where
    pub all : (xs : List SizedToken) → SizedTokensFrom way p 0 xs → OwesLeft c spent limit

  -- One test ago the engine stood here, and `limit` is enough.
  pub record AllowsMiss (state : State) (spent limit : ℕ) : Type 0 where
    pub before : ℕ
    pub tested : IsTest measure way p state.place before spent
    pub allows : AllowsAt state before limit

  -- What a turn, and going back to a mark, leave of the budget.
  abbrev pub AllowsOutcome : Turn → ℕ → ℕ → Type 0
  AllowsOutcome turn.Match spent limit = spent ≤ limit
  AllowsOutcome turn.NoMatch spent limit = spent ≤ limit
  AllowsOutcome (turn.Miss state) spent limit = AllowsMiss state spent limit
  AllowsOutcome (turn.On next) spent limit = AllowsAt next spent limit

  abbrev pub AllowsResumed : Option State → ℕ → ℕ → Type 0
  AllowsResumed None spent limit = spent ≤ limit
  AllowsResumed (Some next) spent limit = AllowsAt next spent limit

  -- the same of going back to the local mark, which may leave the crossing mark alone
  abbrev pub AllowsLocal : Crossing → Option State → ℕ → ℕ → Type 0
  AllowsLocal c None spent limit = AllowsLeft c spent limit
  AllowsLocal c (Some next) spent limit = AllowsAt next spent limit

-- a turn takes a step, but where the match ends in a star that takes the rest of the value
abbrev pub CountsOutcome : Turn → ℕ → ℕ → Type 0
CountsOutcome turn.Match before after = Unit {0}
CountsOutcome turn.NoMatch before after = before < after
CountsOutcome (turn.Miss state) before after = before < after
CountsOutcome (turn.On next) before after = before < after

-- What a search takes, for texts of so many bytes: with the test of the last byte, which is one step and two looks, it is within
-- the limits.
pub record IsWithinLimits (pattern value : ℕ) (before after : Counts) : Type 0 where
  pub steps : after.steps + 1 ≤ before.steps + step_limit pattern value
  pub looks : after.looks + 2 ≤ before.looks + look_limit pattern value
