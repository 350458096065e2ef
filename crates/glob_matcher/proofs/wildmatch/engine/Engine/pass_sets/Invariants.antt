-- Whatever the marks are, the engine stands here with them, and each set that was passed is a step and at most six looks for each of its
-- bytes.
use Rattle.std.proofs.Common.{◌≡◌, ℕ, ◌+◌, ◌-◌, ◌*◌, ◌≤◌, length}
use Rattle.glob_matcher.specs.Private.Takes.{Takes}
use Rattle.glob_matcher.specs.declared.wildmatch.state.State.{State}
use Rattle.glob_matcher.specs.Private.SetRuns.{moved}
use Rattle.glob_matcher.specs.Private.States.{StandsAt}
use Rattle.glob_matcher.specs.Private.Prices.{Measure, amount}
use Rattle.glob_matcher.specs.Private.Budget.{AllowsAt}
use Rattle.glob_matcher.proofs.wildmatch.engine.Engine.pass_sets.Given as goal

abbrev pub invariant-sets : goal.invariant-sets
invariant-sets g l = record {
  stands : (state : State) → StandsAt g.M.Texts.way g.M.Texts.pattern g.M.Texts.value (moved state l.fn.places)
      → StandsAt g.M.Texts.way g.M.Texts.pattern g.M.Texts.value (moved state l.places);
  allows : (state : State) → StandsAt g.M.Texts.way g.M.Texts.pattern g.M.Texts.value (moved state l.fn.places)
      → (measure : Measure) (spent limit : ℕ)
      → AllowsAt measure g.M.Texts.way g.M.Texts.pattern g.M.Texts.value (moved state l.fn.places) spent limit
      → AllowsAt measure g.M.Texts.way g.M.Texts.pattern g.M.Texts.value (moved state l.places)
      (spent + amount measure (l.places.at - l.fn.places.at) (8 * (l.places.place - l.fn.places.place))) limit;
  low : l.fn.places.at ≤ l.places.at;
  inside : l.places.at ≤ length g.M.Texts.value;
  wide : l.fn.places.place + (l.places.at - l.fn.places.at) ≤ l.places.place;
  start : l.places.at ≡ l.fn.places.at → l.places.place ≡ l.fn.places.place;
  count : Takes l.fn.self l.self (l.places.at - l.fn.places.at) (6 * (l.places.place - l.fn.places.place));
}

abbrev pub decreases-sets : goal.decreases-sets
decreases-sets g l = length g.M.Texts.value - l.places.at
