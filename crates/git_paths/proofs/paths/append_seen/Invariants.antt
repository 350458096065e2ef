use Rattle.std.proofs.Common.{◌≡◌, length}
use Rattle.std.specs.Option.{option_copied}
use Rattle.git_paths.specs.Paths.{folder_parts, parts_left, seen_from}
use Rattle.git_paths.proofs.paths.append_seen.Given as goal

-- what leads to the rest of the path from the parts that are left leads to all of it
abbrev pub invariant-parts : goal.invariant-parts
invariant-parts l =
    (seen_from (parts_left (option_copied l.parts)) l.rest ≡ seen_from (folder_parts l.fn.folder) l.fn.path)
    × (l.text.items ≡ l.initial.text.items)

abbrev pub decreases-parts : goal.decreases-parts
decreases-parts l = length (parts_left (option_copied l.parts))
