use Rattle.std.proofs.Common.{◌≡◌, ℕ, List, map, take}
use Rattle.std.specs.Borrow.{Bor}
use Rattle.git_index.specs.Entries.{tracked}
use Rattle.tree_commands.specs.TrackedFiles.{paths_at}
use Rattle.tree_commands.proofs.tracked_files.paths_at.Given as goal

-- those among the entries so far
abbrev pub invariant-entries : goal.invariant-entries
invariant-entries l = map (λ (path : Bor (List ℕ)). path.now) l.paths.items ≡ paths_at l.path l.is_told_folder (map tracked (take l.entry-index l.entries))
