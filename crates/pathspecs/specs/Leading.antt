-- Where a spelt path leads.
use Rattle.std.specs.Prelude.{ℕ, ◌-◌, ◌==◌, ◌&&◌, ◌||◌, Bool, false, not, nat_eq, if◌then◌else◌, List, [], length, take, Option, None, Some, codes}
use Rattle.std.specs.List.{ends_with, list_any}
use Rattle.std.specs.Option.{option_and_then, option_map_or}
use Rattle.git_paths.specs.declared.standpoint.Standpoint.{Standpoint}
use Rattle.git_paths.specs.Paths.{names_folder, parts_of, walk}
use Rattle.git_paths.specs.Standpoints.{is_absolute, led, literal_front}
use Rattle.pathspecs.specs.Spelling.{Spelt, spelt_by}

-- a slash stands at the end
abbrev pub ends_in_slash : List ℕ → Bool
ends_in_slash path = ends_with nat_eq path (codes "/")

abbrev pub without_slash : List ℕ → List ℕ
without_slash path = if ends_in_slash path then take (length path - 1) path else path

-- A path that is told from the top stands for itself: `.` and `..` are names in it. Only a slash at its end isn't of it. It leads nowhere
-- where a part of it has no bytes.
abbrev pub standing : List ℕ → Option (List ℕ)
standing path = if length path == 0 || not (list_any (λ part. length part == 0) (parts_of (without_slash path))) then Some (without_slash path) else None

-- where a spelt path leads from the top, and whether it is told as a folder's
abbrev pub leads : Standpoint → Spelt → Option (List ℕ)
leads standpoint spelt = if spelt.is_from_top then standing spelt.path else led standpoint spelt.path

-- where a path leads that is told from the root, from there
abbrev pub leads_from_root : Spelt → Option (List ℕ)
leads_from_root spelt = if not spelt.is_from_top && is_absolute spelt.path then walk [] (parts_of spelt.path) else None

abbrev pub names_folder_so : Spelt → Bool
names_folder_so spelt = if spelt.is_from_top then ends_in_slash spelt.path else names_folder false (parts_of spelt.path)

-- how many bytes of the current folder's path stay in front
abbrev pub front_of : Standpoint → Spelt → ℕ
front_of standpoint spelt = if spelt.is_from_top then 0 else literal_front standpoint spelt.path

-- the same of a word: one that spells nothing leads nowhere
abbrev pub word_leads : Standpoint → List ℕ → Option (List ℕ)
word_leads standpoint word = option_and_then (leads standpoint) (spelt_by word)

abbrev pub word_leads_from_root : List ℕ → Option (List ℕ)
word_leads_from_root word = option_and_then leads_from_root (spelt_by word)

abbrev pub word_names_folder : List ℕ → Bool
word_names_folder word = option_map_or names_folder_so (spelt_by word) false

abbrev pub word_front : Standpoint → List ℕ → ℕ
word_front standpoint word = option_map_or (front_of standpoint) (spelt_by word) 0
