-- Which tracked paths are listed, and what is written of those that are ignored.
use Rattle.std.specs.Prelude.{◌≡◌, ℕ, Bool, true, false, ◌&&◌, ◌||◌, not, nat_eq, List, [], ◌∷◌, ◌++◌, map, filter, Option, codes}
use Rattle.std.specs.List.{list_any, starts_with}
use Rattle.std.specs.Option.{option_map}
use Rattle.std.specs.Str.{bytes_eq}
use Rattle.git_index.specs.declared.entry.Kind.{Kind}
use Rattle.git_index.specs.declared.entry.Kind.TheVariants.{Executable, File, Link, Submodule}
use Rattle.git_index.specs.Entries.{Tracked}
use Rattle.gix_glob.specs.Bytes.{slash}
use Rattle.gix_glob.specs.EntryLists.{EntryList}
use Rattle.glob_trees.specs.Ways.{Folder}
use Rattle.byte_streams.specs.Records.{TextOf}
use Rattle.git_paths.specs.declared.standpoint.Standpoint.{Standpoint}
use Rattle.git_paths.specs.Paths.{names_folder, parts_of}
use Rattle.git_paths.specs.Standpoints.{led, shown}
use Rattle.tree_answers.specs.declared.form.Form.{Form}
use Rattle.tree_commands.specs.declared.check_ignore.flags.IgnoreFlags.{IgnoreFlags}
use Rattle.tree_commands.specs.CheckIgnore.{IsIgnoreAnswer, Question}

abbrev pub is_submodule : Kind → Bool
is_submodule File = false
is_submodule Executable = false
is_submodule Link = false
is_submodule Submodule = true

-- an entry lies at or below a path; all lie below the top, which has no bytes. At a path that is told as a folder's no file lies.
abbrev pub lies_at : List ℕ → Bool → Tracked → Bool
lies_at path is_told entry =
    (bytes_eq path [] || starts_with nat_eq entry.path (path ++ slash ∷ []))
    || (bytes_eq entry.path path && (not is_told || is_submodule entry.kind))

-- the paths of the entries there, in their order
abbrev pub paths_at : List ℕ → Bool → List Tracked → List (List ℕ)
paths_at path is_told entries = map (λ (entry : Tracked). entry.path) (filter (lies_at path is_told) entries)

-- the same, of where a told path leads from the standpoint
abbrev pub paths_asked : Standpoint → List ℕ → List Tracked → Option (List (List ℕ))
paths_asked standpoint told entries = option_map (λ path. paths_at path (names_folder false (parts_of told)) entries) (led standpoint told)

-- names alone are written, of paths that are ignored
abbrev pub names_alone : Form → IgnoreFlags
names_alone form = record { form = form; verbose = false; non_matching = false; quiet = false }

abbrev pub is_signed : List ℕ → Bool
is_signed name = starts_with nat_eq name (codes ":")

-- the text has the lines of those of these paths that are ignored, each told as it is seen from the current folder; none of them is seen
-- with a colon in front, behind which a word spells another path
abbrev pub AreIgnored : Question → (Folder → EntryList (Unit {0}) → Type 0) → Standpoint → List (List ℕ) → List ℕ → Type 0
AreIgnored question shows standpoint paths text = (list_any is_signed (map (shown standpoint) paths) ≡ false) × TextOf (IsIgnoreAnswer question shows) (map (shown standpoint) paths) text
