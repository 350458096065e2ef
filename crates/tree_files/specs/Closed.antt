-- Folders in which nothing can be seen.
use Rattle.std.specs.Prelude.{◌≢◌, ◌⊎◌, Bool, IsTrue, nat_eq, []}
use Rattle.std.specs.List.{starts_with}
use Rattle.std.specs.BTreeSet.{contains_by}
use Rattle.std.specs.Cmp.Lexicographic.{slice_cmp}
use Rattle.std.specs.Ordering.{nat_cmp}
use Rattle.git_paths.specs.Paths.{folder_of}
use Rattle.glob_trees.specs.Ways.{Folder}
use Rattle.tree_files.specs.declared.closed_folders.ClosedFolders.{ClosedFolders}

-- whether a folder is known to be one that can't be looked at
abbrev pub is_shut : ClosedFolders → Folder → Bool
is_shut closed folder = contains_by (λ key. slice_cmp nat_cmp folder key.items) closed.shut

-- a folder is this one, or on the way to the one that this one lies in
pub data IsOnTheWay (front : Folder) : Folder → Type 0 where
  here : IsOnTheWay front front
  above : {folder : Folder} → IsOnTheWay front (folder_of folder) → IsOnTheWay front folder

-- it can't be looked at, or one on the way to it can't
abbrev pub HasShut : ClosedFolders → Folder → Type 0
HasShut closed folder = (front : Folder) × IsOnTheWay front folder × IsTrue (is_shut closed front)

-- it begins with the one that was found last and its slash
abbrev pub IsBelowLast : ClosedFolders → Folder → Type 0
IsBelowLast closed folder = (closed.last.items ≢ []) × IsTrue (starts_with nat_eq folder closed.last.items)

-- nothing can be seen in it
abbrev pub IsClosed : ClosedFolders → Folder → Type 0
IsClosed closed folder = IsBelowLast closed folder ⊎ HasShut closed folder
