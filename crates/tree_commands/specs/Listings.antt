-- What is asked of a listing, as plain data.
use Rattle.std.specs.Prelude.{ℕ, Bool, false, if◌then◌else◌, List, []}
use Rattle.std.specs.Option.{option_map_or}
use Rattle.git_index.specs.Entries.{Tracked, starting_with}
use Rattle.glob_trees.specs.Ways.{Folder}
use Rattle.git_paths.specs.declared.standpoint.Standpoint.{Standpoint}
use Rattle.git_paths.specs.Paths.{folder_of, names_folder, parts_of}
use Rattle.git_paths.specs.Standpoints.{led}
use Rattle.tree_commands.specs.declared.files.Listing.{Listing}
use Rattle.tree_commands.specs.Files.{Basis, basis_of}

-- the folder in which a path is told: itself, where it is told as a folder's, and else what stands before its last slash
abbrev pub told_in : List ℕ → Bool → Folder
told_in path is_told = if is_told then path else folder_of path

-- the entries of an index that count where something is told: those whose paths begin with the bytes of the folder in which it is
abbrev pub counted : Standpoint → List ℕ → List Tracked → List Tracked
counted standpoint told entries = option_map_or (λ path. starting_with (told_in path (names_folder false (parts_of told))) entries) (led standpoint told) []

abbrev pub asked_basis : Listing → List ℕ → List Tracked → Basis
asked_basis listing told tracked = basis_of listing.fronts.items (record {
  case = listing.case;
  chosen = listing.chosen;
  folders = listing.folders;
  tracked = record { case = listing.case; entries = counted listing.standpoint told tracked };
})
