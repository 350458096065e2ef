-- Where a told path leads.
use Rattle.std.specs.Prelude.{◌≡◌, ◌≢◌, ◌⊎◌, ℕ, ◌==◌, ◌||◌, Bool, IsTrue, not, nat_eq, if◌then◌else◌, List, [], ◌∷◌, ◌++◌, drop, length, Option, None, Some, codes}
use Rattle.std.specs.List.{AllByRecursion, flat_map, list_any, slice_split, starts_with}
use Rattle.std.specs.Option.{option_and_then, option_map, unwrap_or}
use Rattle.std.specs.Str.{byte, bytes_eq}

-- whether a byte is a slash
abbrev pub is_slash : ℕ → Bool
is_slash b = b == byte "/"

-- the parts of what is told, between the slashes
abbrev pub parts_of : List ℕ → List (List ℕ)
parts_of told = slice_split is_slash told

-- those of what is left, where something is
abbrev pub parts_left : Option (List ℕ) → List (List ℕ)
parts_left None = []
parts_left (Some left) = parts_of left

-- a part that leads nowhere else, and one that leads to the folder above
abbrev pub stays : List ℕ → Bool
stays part = bytes_eq part [] || bytes_eq part (codes ".")

abbrev pub goes_up : List ℕ → Bool
goes_up part = bytes_eq part (codes "..")

-- a part that leads to what stands below, and parts that all do
abbrev pub is_name : List ℕ → Bool
is_name part = not (stays part || goes_up part)

abbrev pub AreNames : List (List ℕ) → Type 0
AreNames parts = AllByRecursion (λ part. IsTrue (is_name part)) parts

-- a name in a folder; the folder that paths are counted from has no bytes
abbrev pub below : List ℕ → List ℕ → List ℕ
below [] name = name
below (b ∷ folder) name = (b ∷ folder) ++ byte "/" ∷ name

-- the folder of a path: what stands before its last slash
abbrev pub folder_of : List ℕ → List ℕ
folder_of [] = []
folder_of (b ∷ path) = if list_any is_slash path then b ∷ folder_of path else []

-- where a path leads from which one goes up
abbrev pub above : List ℕ → Option (List ℕ)
above [] = None
above (b ∷ path) = Some (folder_of (b ∷ path))

-- where a part leads from a path
abbrev pub step : List ℕ → List ℕ → Option (List ℕ)
step path part = if stays part then Some path else (if goes_up part then above path else Some (below path part))

-- where parts lead, one after the other
abbrev pub walk : List ℕ → List (List ℕ) → Option (List ℕ)
walk path [] = Some path
walk path (part ∷ parts) = option_and_then (λ next. walk next parts) (step path part)

-- whether the last part says that a folder is meant; where there is none, what was known before
abbrev pub names_folder : Bool → List (List ℕ) → Bool
names_folder known [] = known
names_folder known (part ∷ parts) = names_folder (stays part || goes_up part) parts

-- the name has no slash, and the path is the name, or ends in a slash and the name
abbrev pub IsLastName : List ℕ → List ℕ → Type 0
IsLastName path name = AllByRecursion (λ b. b ≢ byte "/") name × ((path ≡ name) ⊎ ((folder : List ℕ) × (path ≡ folder ++ byte "/" ∷ name)))

-- what is left of a path behind a folder's slash; all of it, where the folder is the root, and nothing for the folder itself
abbrev pub after_slash : List ℕ → Option (List ℕ)
after_slash [] = Some []
after_slash (b ∷ rest) = if is_slash b then Some rest else None

abbrev pub left_below : List ℕ → List ℕ → Option (List ℕ)
left_below [] path = Some path
left_below (b ∷ folder) path = if starts_with nat_eq path (b ∷ folder) then after_slash (drop (length (b ∷ folder)) path) else None

-- the parts of a folder's path; the folder that paths are counted from has none
abbrev pub folder_parts : List ℕ → List (List ℕ)
folder_parts [] = []
folder_parts (b ∷ folder) = parts_of (b ∷ folder)

-- a step up for each part
abbrev pub steps_up : List (List ℕ) → List ℕ
steps_up parts = flat_map (λ _. codes "../") parts

-- what leads to what is left of a path: where nothing is, to the folder itself
abbrev pub or_here : List ℕ → List ℕ
or_here [] = codes "./"
or_here (b ∷ left) = b ∷ left

-- what leads to a path from the folder of these parts: what both have in common is left out, and from the rest of the parts it goes up
abbrev pub seen_from : List (List ℕ) → List ℕ → List ℕ
seen_from [] path = or_here path
seen_from (part ∷ parts) path = unwrap_or (option_map (λ left. seen_from parts left) (left_below part path)) (steps_up (part ∷ parts) ++ path)
