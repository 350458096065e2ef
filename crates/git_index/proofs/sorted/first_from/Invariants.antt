use Rattle.std.proofs.Common.{◌≡◌, ◌-◌, ◌<◌, ◌≤◌, ◌++◌, ℕ, true, false, length, map}
use Rattle.std.specs.Ordering.{is_lt}
use Rattle.git_index.specs.Entries.{tracked}
use Rattle.git_index.specs.Private.Search.{path_at}
use Rattle.git_index.specs.Folding.{folded}
use Rattle.git_index.specs.Private.Folds.{bare}
use Rattle.git_index.proofs.lemmas.Folding.{cmp}
use Rattle.git_index.proofs.sorted.first_from.Given as goal

abbrev pub invariant-loop-low : goal.invariant-loop-low
invariant-loop-low l = record {
  ordered : l.low ≤ l.high;
  within : l.high ≤ length l.sorted;
  before : (k : ℕ) → k < l.low → is_lt (cmp (path_at (map bare (map tracked l.sorted)) k) (folded (l.front ++ l.end))) ≡ true;
  behind : (k : ℕ) → l.high ≤ k → k < length l.sorted → is_lt (cmp (path_at (map bare (map tracked l.sorted)) k) (folded (l.front ++ l.end))) ≡ false;
}

abbrev pub decreases-loop-low : goal.decreases-loop-low
decreases-loop-low l = l.high - l.low
