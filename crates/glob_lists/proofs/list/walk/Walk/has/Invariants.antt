use Rattle.std.proofs.Common.{◌≡◌, ◌<◌, ℕ}
use Rattle.glob_lists.specs.Private.Lists.Walking.{next_of}
use Rattle.glob_lists.proofs.list.walk.Walk.has.Given as goal

-- none of the chains so far leads there
abbrev pub invariant-nexts : goal.invariant-nexts
invariant-nexts l = (k : ℕ) → k < l.n → ¬ (next_of l.self k ≡ l.next.0)
