-- How much of a path stays in front, by counting.
use Rattle.std.specs.Prelude.{ℕ, ◌+◌, ◌-◌, ◌==◌, if◌then◌else◌, List, [], ◌∷◌, length}
use Rattle.git_paths.specs.Paths.{folder_of, goes_up, stays}

-- how many bytes stay of a front, behind which so many names stand, where parts lead on: only where no name is left does it get shorter
abbrev pub front_by : ℕ → List ℕ → List (List ℕ) → ℕ
front_by depth front [] = length front
front_by depth front (part ∷ parts) =
    if stays part then front_by depth front parts
    else (if goes_up part then (if depth == 0 then front_by 0 (folder_of front) parts else front_by (depth - 1) front parts)
    else front_by (depth + 1) front parts)
