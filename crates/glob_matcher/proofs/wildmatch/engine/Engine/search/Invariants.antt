-- The engine stands where it may, and what is left of its budget is enough.
use Rattle.std.proofs.Common.{◌+◌, ◌-◌, length}
use Rattle.glob_matcher.specs.Steps.{NeverFall, step_limit, look_limit}
use Rattle.glob_matcher.specs.Private.States.{StandsAt}
use Rattle.glob_matcher.specs.Private.Prices.{Measure, amount, amount_of}
use Rattle.glob_matcher.specs.Private.Budget.{AllowsAt}
use Rattle.glob_matcher.proofs.wildmatch.engine.Engine.search.Given as goal

abbrev pub invariant-turns : goal.invariant-turns
invariant-turns g l = record {
  stands : StandsAt g.M.Texts.way g.M.Texts.pattern g.M.Texts.value l.state;
  allows : (measure : Measure) → AllowsAt measure g.M.Texts.way g.M.Texts.pattern g.M.Texts.value l.state (amount_of measure l.self)
      (amount_of measure l.fn.self + amount measure (step_limit (length g.M.Texts.pattern) (length g.M.Texts.value) - 1) (look_limit (length g.M.Texts.pattern) (length g.M.Texts.value) - 2));
  grows : NeverFall l.fn.self l.self;
}

abbrev pub decreases-turns : goal.decreases-turns
decreases-turns g l = l.fn.self.steps + step_limit (length g.M.Texts.pattern) (length g.M.Texts.value) - l.self.steps
