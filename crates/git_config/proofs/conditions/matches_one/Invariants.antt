use Rattle.std.proofs.Common.{◌≡◌, ℕ, ◌<◌, Vec, Global, slice_index_or}
use Rattle.git_config.specs.Includes.{MatchesFolder}
use Rattle.git_config.proofs.conditions.matches_one.Given as goal

-- no path so far matches
abbrev pub invariant-loop-path : goal.invariant-loop-path
invariant-loop-path l =
    (k : ℕ) (path : Vec ℕ Global) → k < l.path-index → slice_index_or l.around.git_folders.items k path ≡ path → ¬ MatchesFolder l.fold (l.split.front.items, l.split.pattern.items) path.items
