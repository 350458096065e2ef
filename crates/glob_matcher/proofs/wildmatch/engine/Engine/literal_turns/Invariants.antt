-- The engine stands here with the same marks, and each byte taken is a step and two looks.
use Rattle.std.proofs.Common.{ℕ, ◌+◌, ◌-◌, ◌*◌, ◌≤◌, length}
use Rattle.glob_matcher.specs.Private.Takes.{Takes}
use Rattle.glob_matcher.specs.Private.States.{StandsAt}
use Rattle.glob_matcher.specs.Private.Prices.{Measure, amount}
use Rattle.glob_matcher.specs.Private.Budget.{AllowsAt}
use Rattle.glob_matcher.proofs.wildmatch.engine.Engine.literal_turns.Given as goal

abbrev pub invariant-bytes : goal.invariant-bytes
invariant-bytes g l = record {
  stands : StandsAt g.M.Texts.way g.M.Texts.pattern g.M.Texts.value (record l.state { place = l.place; at = l.at });
  allows : (measure : Measure) (spent limit : ℕ) → AllowsAt measure g.M.Texts.way g.M.Texts.pattern g.M.Texts.value l.state spent limit
      → AllowsAt measure g.M.Texts.way g.M.Texts.pattern g.M.Texts.value (record l.state { place = l.place; at = l.at })
      (spent + amount measure (l.place - l.fn.state.place) (8 * (l.place - l.fn.state.place))) limit;
  low : l.fn.state.place ≤ l.place;
  count : Takes l.fn.self l.self (l.place - l.fn.state.place) (2 * (l.place - l.fn.state.place));
}

abbrev pub decreases-bytes : goal.decreases-bytes
decreases-bytes g l = length g.M.Texts.pattern - l.place
