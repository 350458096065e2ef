-- Entries in the order of their paths without case.
use Rattle.std.specs.Prelude.{◌≡◌, ℕ, false, List, ◌∷◌, ◌++◌}
use Rattle.glob_matcher.specs.Bytes.{slash}
use Rattle.git_index.specs.Entries.{Tracked}
use Rattle.git_index.specs.Folding.{folded}

-- an entry with its path without case, at a stage at which several may have one path
abbrev pub bare : Tracked → Tracked
bare e = record { path = folded e.path; stage = 1; kind = e.kind; assume_valid = false; skip_worktree = false; intent_to_add = false }

-- a path goes on below a folder, but for case
abbrev pub LiesBelowFolded : List ℕ → List ℕ → Type 0
LiesBelowFolded path folder = (rest : List ℕ) × (folded path ≡ folded folder ++ slash ∷ rest)
