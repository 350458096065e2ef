-- The run so far is of stars, and each but the first was looked at once.
use Rattle.std.proofs.Common.{◌≡◌, ◌+◌, ◌-◌, ◌<◌, ◌≤◌, ℕ, length}
use Rattle.glob_matcher.specs.Bytes.{HasByte, star}
use Rattle.glob_matcher.proofs.wildmatch.engine.Engine.run_end.Given as goal

abbrev pub invariant-stars : goal.invariant-stars
invariant-stars g l = record {
  stars : (m : ℕ) → l.place ≤ m → m < l.end → HasByte g.M.Texts.pattern m star;
  past : l.place < l.end;
  inside : l.end ≤ length g.M.Texts.pattern;
  steps : l.self.steps ≡ l.fn.self.steps;
  looks : l.self.looks + l.place + 1 ≤ l.fn.self.looks + l.end;
  low : l.fn.self.looks ≤ l.self.looks;
}

abbrev pub decreases-stars : goal.decreases-stars
decreases-stars g l = length g.M.Texts.pattern - l.end
