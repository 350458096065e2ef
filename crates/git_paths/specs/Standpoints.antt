-- Where paths lead that are told from the current folder, and how paths are shown from there.
use Rattle.std.specs.Prelude.{ℕ, min, Bool, ◌&&◌, not, if◌then◌else◌, nat_eq, List, [], ◌∷◌, length, Option, Some, codes}
use Rattle.std.specs.List.{starts_with}
use Rattle.std.specs.Option.{option_and_then, option_map, unwrap_or}
use Rattle.git_paths.specs.declared.standpoint.Standpoint.{Standpoint}
use Rattle.git_paths.specs.Paths.{below, folder_parts, left_below, parts_of, seen_from, step, walk}

-- a path that is told from the root
abbrev pub is_absolute : List ℕ → Bool
is_absolute told = starts_with nat_eq told (codes "/")

-- The path from the top to which a told path leads. One that is told from a folder of the work tree leads out of it where it goes above
-- the top; another one where it doesn't end below the top.
abbrev pub led : Standpoint → List ℕ → Option (List ℕ)
led standpoint told = option_and_then
    (λ path. if standpoint.is_inside && not (is_absolute told) then Some path else left_below standpoint.top.items path)
    (walk (if is_absolute told then [] else standpoint.here.items) (parts_of told))

-- a path from the top, as the current folder sees it
abbrev pub shown : Standpoint → List ℕ → List ℕ
shown standpoint path = seen_from (folder_parts standpoint.here.items) (if standpoint.is_inside then path else below standpoint.top.items path)

-- How many bytes of a folder's path stay in front, where parts lead on from a path: the least length of a path on the way. What is gone up
-- from and down to again doesn't stay.
abbrev pub front_left : ℕ → List ℕ → List (List ℕ) → ℕ
front_left least path [] = least
front_left least path (part ∷ parts) = unwrap_or (option_map (λ next. front_left (min least (length next)) next parts) (step path part)) least

-- how many bytes of the current folder's path stay in front of where a told path leads: those aren't told, so that they stand for themselves
abbrev pub literal_front : Standpoint → List ℕ → ℕ
literal_front standpoint told =
    if standpoint.is_inside && not (is_absolute told) then front_left (length standpoint.here.items) standpoint.here.items (parts_of told) else 0
