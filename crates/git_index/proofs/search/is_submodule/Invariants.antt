use Rattle.std.proofs.Common.{◌≡◌, ◌-◌, ◌<◌, ◌≤◌, ◌++◌, ℕ, [], length, map, false}
use Rattle.std.specs.Ordering.{is_lt}
use Rattle.git_index.specs.Entries.{tracked}
use Rattle.git_index.specs.Private.Search.{path_at}
use Rattle.git_index.proofs.lemmas.Search.{cmp}
use Rattle.git_index.proofs.lemmas.Submodules.{StandBehind}
use Rattle.git_index.proofs.search.is_submodule.Given as goal

abbrev pub invariant-loop-place : goal.invariant-loop-place
invariant-loop-place l = record {
  within : l.place ≤ length l.entries;
  low : (k : ℕ) → l.place ≤ k → k < length l.entries → is_lt (cmp (path_at (map tracked l.entries) k) (l.path ++ [])) ≡ false;
  behind : StandBehind (map tracked l.entries) l.path l.place;
}

abbrev pub decreases-loop-place : goal.decreases-loop-place
decreases-loop-place l = length l.entries - l.place
