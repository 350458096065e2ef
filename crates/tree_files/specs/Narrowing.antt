-- Which tree is shown where pathspecs narrow a tree. A folder's path has a slash at its end where pathspecs are asked for it.
use Rattle.std.specs.Prelude.{◌≡◌, ◌≢◌, ◌⊎◌, ◌↔◌, ◌++◌, ◌∷◌, ℕ, List, [], Some, false, true}
use Rattle.std.specs.List.{Any}
use Rattle.gix_glob.specs.Bytes.{slash}
use Rattle.glob_trees.specs.Ways.{Folder}
use Rattle.pathspecs.specs.declared.manner.Manner.{Manner}
use Rattle.pathspecs.specs.declared.manner.Manner.TheVariants.{Below}
use Rattle.pathspecs.specs.Elements.{LeadsInto, Meets, MeetsBy, PathspecItem}
use Rattle.pathspecs.specs.Lists.{Matches, MayMatchIn}
use Rattle.tree_commands.specs.declared.files.source.EntryKind.{EntryKind}
use Rattle.tree_commands.specs.declared.files.source.EntryKind.TheVariants.{File, Folder as OfFolder}
use Rattle.tree_commands.specs.FileTrees.{FileTree}
use Rattle.tree_commands.specs.Lookups.{HasEntryBelow, LookedUp}
use Rattle.tree_commands.specs.Private.FoldedPaths.{case_by}
use Rattle.tree_files.specs.declared.narrowed.AskedPaths.{AskedPaths}

-- what is asked for: the elements of all words, and what the index tracks
pub record Asked : Type 0 where
  pub items : List PathspecItem
  pub tracked : LookedUp

abbrev pub asked_of : AskedPaths → Asked
asked_of asked = record { items = asked.list.now; tracked = record { case = case_by asked.tracked.folded; entries = asked.tracked.index.now } }

abbrev pub as_folder : List ℕ → List ℕ
as_folder path = path ++ slash ∷ []

-- an element meets the folder by its text or its pattern, and not only as one that lies below its text
abbrev pub IsMetItself : List PathspecItem → List ℕ → Type 0
IsMetItself items folder = Any (λ item. (item.magic.exclude ≡ false) × ((way : Manner) × (way ≢ Below) × MeetsBy way item folder)) items

-- a word by itself may match in the folder, or its case isn't counted, so that its front doesn't tell
abbrev pub IsOpen : List PathspecItem → List ℕ → Type 0
IsOpen items folder = Any (λ item. (item.magic.exclude ≡ false) × ((Meets item folder ⊎ LeadsInto item folder) ⊎ (item.magic.icase ≡ true))) items

-- a word that doesn't meet the folder leads into it
abbrev pub LeadsFurther : List PathspecItem → List ℕ → Type 0
LeadsFurther items folder = Any (λ item. (item.magic.exclude ≡ false) × (LeadsInto item folder × ¬ Meets item folder)) items

-- the folder of a repository is asked for itself: it is met so; or it is matched, and no other word leads further in
abbrev pub AsksRepository : Asked → List ℕ → Type 0
AsksRepository asked folder = IsMetItself asked.items folder ⊎ (Matches asked.items folder × ¬ LeadsFurther asked.items folder)

-- What stands at a path is asked for: a file that the list matches; a folder in which it may match something, but a repository's only if it is
-- asked for itself; and one in which something tracked lies, whatever excludes say, and where a word may match in it.
abbrev pub AsksFor : Asked → FileTree → List ℕ → EntryKind → Type 0
AsksFor asked whole path File = Matches asked.items path
AsksFor asked whole path OfFolder = (HasEntryBelow asked.tracked path × IsOpen asked.items (as_folder path))
    ⊎ (MayMatchIn asked.items (as_folder path) × (whole.has_git path ≡ true → AsksRepository asked (as_folder path)))

-- a tree in which only what is asked for stands; all else is as in the whole one
pub record IsNarrowed (asked : Asked) (whole tree : FileTree) : Type 0 where
  pub kind : (path : List ℕ) (kind : EntryKind) → (tree.kind path ≡ Some kind) ↔ ((whole.kind path ≡ Some kind) × AsksFor asked whole path kind)
  pub names : (folder : Folder) → tree.names folder ≡ whole.names folder
  pub git : (folder : Folder) → tree.has_git folder ≡ whole.has_git folder
  pub list : (folder : Folder) → tree.list folder ≡ whole.list folder
