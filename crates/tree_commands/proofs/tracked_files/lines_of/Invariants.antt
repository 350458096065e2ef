use Rattle.std.proofs.Common.{◌≡◌, ℕ, List, take}
use Rattle.std.specs.Borrow.{Bor}
use Rattle.std.specs.List.{flat_map}
use Rattle.tree_commands.specs.declared.files.mark.Mark.TheVariants as marks
use Rattle.tree_commands.specs.Files.{path_line}
use Rattle.tree_commands.proofs.tracked_files.lines_of.Given as goal

-- the lines of the paths so far
abbrev pub invariant-paths : goal.invariant-paths
invariant-paths l = l.text.items ≡ flat_map (λ (path : Bor (List ℕ)). path_line marks.Bare l.standpoint l.form path.now) (take l.path-index l.paths)
