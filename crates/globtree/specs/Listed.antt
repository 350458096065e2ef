-- Which entries of the index pathspecs match. A submodule's is asked for as a file's and, by its text, as a folder's.
use Rattle.std.specs.Prelude.{◌≡◌, ◌⊎◌, ◌++◌, ◌∷◌, ℕ, Bool, false, true, if◌then◌else◌, List, [], Option, None, Some}
use Rattle.std.specs.List.{Any}
use Rattle.std.specs.Option.{option_map}
use Rattle.std.specs.Vec.{vec_items}
use Rattle.git_index.specs.Entries.{Tracked}
use Rattle.pathspecs.specs.declared.manner.Manner.TheVariants.{Exact}
use Rattle.pathspecs.specs.Elements.{Meets, MeetsBy, PathspecItem}
use Rattle.tree_commands.specs.TrackedFiles.{is_submodule}
use Rattle.tree_files.specs.Narrowing.{as_folder}
use Rattle.globtree.specs.declared.listed_path.ListedPath.{ListedPath}

-- a path, and that with a slash at its end, where it is a submodule's
pub record Listed : Type 0 where
  pub path : List ℕ
  pub folder : Option (List ℕ)

abbrev pub seen_listed : ListedPath → Listed
seen_listed listed = record { path = listed.path.now; folder = option_map vec_items listed.folder }

abbrev pub folder_of_entry : Tracked → Option (List ℕ)
folder_of_entry entry = if is_submodule entry.kind then Some (as_folder entry.path) else None

abbrev pub listed_of : Tracked → Listed
listed_of entry = record { path = entry.path; folder = folder_of_entry entry }

-- it is a submodule's, and the element's text is its path and a slash
abbrev pub IsText : PathspecItem → Listed → Type 0
IsText item listed = (folder : List ℕ) × (listed.folder ≡ Some folder) × MeetsBy Exact item folder

abbrev pub MeetsListed : PathspecItem → Listed → Type 0
MeetsListed item listed = Meets item listed.path ⊎ IsText item listed

-- some exclude, or some positive element, meets it
abbrev pub IsMetListed : Bool → List PathspecItem → Listed → Type 0
IsMetListed exclude items listed = Any (λ item. (item.magic.exclude ≡ exclude) × MeetsListed item listed) items

abbrev pub MatchesListed : List PathspecItem → Listed → Type 0
MatchesListed items listed = IsMetListed false items listed × ¬ IsMetListed true items listed

-- the path of an entry is added where the list matches it, and else nothing
abbrev pub AddsMatched : List PathspecItem → Tracked → List (List ℕ) → List (List ℕ) → Type 0
AddsMatched items entry old new = (MatchesListed items (listed_of entry) × (new ≡ old ++ entry.path ∷ [])) ⊎ (¬ MatchesListed items (listed_of entry) × (new ≡ old))

-- the paths of the entries that the list matches, in their order
abbrev pub AreMatched : List PathspecItem → List Tracked → List (List ℕ) → Type 0
AreMatched items [] paths = paths ≡ []
AreMatched items (entry ∷ entries) paths =
    (MatchesListed items (listed_of entry) × ((rest : List (List ℕ)) × (paths ≡ entry.path ∷ rest) × AreMatched items entries rest))
    ⊎ (¬ MatchesListed items (listed_of entry) × AreMatched items entries paths)
