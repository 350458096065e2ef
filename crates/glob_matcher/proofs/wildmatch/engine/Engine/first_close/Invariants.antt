-- No place so far has a closing bracket, and each was looked at once.
use Rattle.std.proofs.Common.{◌≡◌, ℕ, ◌+◌, ◌-◌, ◌<◌, ◌≤◌, length, get_or}
use Rattle.glob_matcher.proofs.wildmatch.engine.Engine.first_close.Given as goal

abbrev pub invariant-bytes : goal.invariant-bytes
invariant-bytes g l = record {
  low : l.from ≤ l.place;
  inside : l.place ≤ length g.M.Texts.pattern;
  none : (m : ℕ) → l.from ≤ m → m < l.place → get_or g.M.Texts.pattern m 0 ≡ 93 → ⊥;
  steps : l.self.steps ≡ l.fn.self.steps;
  looks : l.self.looks + l.from ≡ l.fn.self.looks + l.place;
}

abbrev pub decreases-bytes : goal.decreases-bytes
decreases-bytes g l = length g.M.Texts.pattern - l.place
