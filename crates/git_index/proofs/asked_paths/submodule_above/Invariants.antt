use Rattle.std.proofs.Common.{◌≤◌, ℕ, List, length}
use Rattle.git_index.specs.Holding.{LiesIn}
use Rattle.git_index.proofs.asked_paths.submodule_above.Given as goal

-- no submodule in which the path lies has a shorter path
abbrev pub invariant-loop-place : goal.invariant-loop-place
invariant-loop-place l = (other : List ℕ) → LiesIn l.index l.asked other → l.place ≤ length other
