-- The folders on the way to a path, with their lists of attributes, and what is kept of each folder that was looked at.
use Rattle.std.specs.Prelude.{◌≡◌, ◌⊎◌, ℕ, ◌<◌, ◌≤◌, Bool, true, false, List, [], ◌∷◌, ◌++◌, filter, if◌then◌else◌, length, map, slice_get, slice_set, take, Vec, is_some, Option, None, Some}
use Rattle.std.specs.List.{AllByRecursion, AllZip, Contains, flat_map}
use Rattle.std.specs.Option.{option_map_or, option_to_list}
use Rattle.gix_glob.specs.declared.search.pattern.list.List as patterns
use Rattle.gix_glob.specs.Bytes.{HasByte, slash}
use Rattle.std.specs.declared.alloc.Global.{Global}
use Rattle.glob_attributes.specs.declared.assignment.Assignment.{Assignment}
use Rattle.glob_lists.specs.declared.rules.Reading.TheVariants.{Git}
use Rattle.glob_attributes.specs.declared.parser.AttributeLines.{AttributeLines}
use Rattle.glob_attributes.specs.Told.{names_read, with_names}
use Rattle.gix_glob.specs.EntryLists.{EntryList, entry_list_of}
use Rattle.glob_trees.specs.declared.on_way.FolderOnWay.{FolderOnWay}
use Rattle.glob_trees.specs.Known.{FolderNames, names_of as known_names}
use Rattle.glob_trees.specs.Ways.{Folder, base_of_folder, folders_to, start_of, unless_empty}
use Rattle.glob_attributes.specs.Equations.Files.{AttributeEntry, attributes_of}
use Rattle.glob_attributes.specs.Macros.{Definition}
use Rattle.glob_attributes.specs.Narrowing.{concerns}
use Rattle.glob_attributes.specs.States.{Assigned, Lists}
use Rattle.glob_attributes.specs.Views.{seen_assignments}
use Rattle.tree_commands.specs.declared.check_attr.question.AskedAttributes.{AskedAttributes}
use Rattle.tree_commands.specs.declared.check_attr.question.AskedAttributes.TheVariants as attributes
use Rattle.tree_commands.specs.declared.check_attr.question.OuterFiles.{OuterFiles}
use Rattle.tree_commands.specs.declared.check_attr.walk.Asking.{Asking}
use Rattle.tree_commands.specs.declared.check_attr.walk.Asking.TheVariants as asking
use Rattle.tree_commands.specs.declared.check_attr.walk.FolderAttributes.{FolderAttributes}
use Rattle.tree_commands.specs.declared.check_attr.walk.FoundFolder.{FoundFolder}
use Rattle.tree_commands.specs.CheckAttr.{AreRead, Asked, FolderFile, Files, IsWayTo, ShowsSame, all, files_of, list_in, macros_for, named, names_alone, names_of}

-- ---- what is asked, as plain data

abbrev pub files_in : OuterFiles → Files
files_in files = record { system = files.system.now; user = files.user.now; top = files.top.now; info = files.info.now }

abbrev pub asked_of : AskedAttributes → Asked
asked_of (attributes.Names names) = named (map (λ name. name.now) names.now)
asked_of attributes.All = all

abbrev pub asked_by : Asking → Asked
asked_by (asking.Names names) = named (map (λ name. name.now) names.now)
asked_by (asking.All names) = all

-- where all attributes are asked for, the names that were read
abbrev pub HasRead : Asking → List (List ℕ) → Type 0
HasRead (asking.Names asked) names = Unit {0}
HasRead (asking.All read) names = read ≡ names

-- ---- the lists that are kept

-- the entries that the states of these attributes rest on
abbrev pub kept_entries : Asked → List Definition → List AttributeEntry → List AttributeEntry
kept_entries (named names) macros entries = filter (λ entry. concerns names macros entry.value) entries
kept_entries all macros entries = entries

-- the list of a file for the paths in a folder, with these entries alone
abbrev pub kept_list : Asked → List Definition → Folder → List ℕ → EntryList (List Assigned)
kept_list asked macros folder bytes = record { entries = kept_entries asked macros (attributes_of Git bytes); source = None; base = base_of_folder folder }

-- the lists of the system's file, the user's and the top's
abbrev pub front_lists : Asked → List Definition → Files → Lists
front_lists asked macros files = kept_list asked macros [] files.system ∷ kept_list asked macros [] files.user ∷ kept_list asked macros [] files.top ∷ []

-- the list of a file for the top, with these entries for names alone, and those of the files that count for it
abbrev pub top_list : Asked → List Definition → List ℕ → EntryList (List Assigned)
top_list asked macros bytes = record { entries = kept_entries asked macros (names_alone (list_in [] bytes)).entries; source = None; base = None }

abbrev pub top_lists : Asked → List Definition → Files → Lists
top_lists asked macros files = map (top_list asked macros) (files_of files)

-- ---- what is known of folders

-- what was found of a folder: its file, where one stands there
pub record Sighting : Type 0 where
  pub folder : Folder
  pub file : Option (List ℕ)

-- the list of its file, where it has entries
abbrev pub own_lists : Asked → List Definition → Sighting → Lists
own_lists asked macros at = option_map_or (λ bytes. unless_empty (kept_list asked macros at.folder bytes)) at.file []

-- the lists of patterns
abbrev pub PatternList : Type 0
PatternList = patterns.List AttributeLines (Vec (Assignment (Vec ℕ Global)) Global)

-- a list that may be there, as plain data, and the one that is kept of a folder
abbrev pub lists_held : Option PatternList → Lists
lists_held list = map (entry_list_of seen_assignments) (option_to_list list)

abbrev pub held_lists : FoundFolder → Lists
held_lists found = lists_held found.list

-- what is kept of the top, which isn't looked up
abbrev pub unknown : FoundFolder
unknown = record { is_there = false; list = None }

-- the last list but one is kept by this place
pub record KeepsList (place : ℕ) (lists less : List PatternList) (found kept : List FoundFolder) : Type 0 where
  pub front : List PatternList
  pub list : PatternList
  pub last : PatternList
  pub joined : lists ≡ front ++ list ∷ last ∷ []
  pub left : less ≡ front ++ last ∷ []
  pub old : FoundFolder
  pub there : slice_get found place ≡ Some old
  pub here : kept ≡ slice_set found place (record { is_there = old.is_there; list = Some list })

-- what is kept by this place, a list or none, is put before the last list
pub record PutsList (place : ℕ) (lists more : List PatternList) (kept found : List FoundFolder) : Type 0 where
  pub old : FoundFolder
  pub there : slice_get kept place ≡ Some old
  pub here : found ≡ slice_set kept place (record { is_there = old.is_there; list = None })
  pub put : (front : List PatternList) (last : PatternList) → lists ≡ front ++ last ∷ [] → more ≡ front ++ (option_to_list old.list ++ last ∷ [])

-- the places of folders on the way
abbrev pub places_of : List FolderOnWay → List ℕ
places_of way = map (λ there. there.place) way

-- the last folder on the way, or the top
abbrev pub last_on : List FolderOnWay → FolderOnWay
last_on [] = record { place = 0; length = 0; has_list = false }
last_on (there ∷ []) = there
last_on (there ∷ next ∷ way) = last_on (next ∷ way)

-- what is kept by a place: whether a folder stands there, and its list, unless the folder is on the way
pub record Holds (own : Lists) (file : Option (List ℕ)) (way : List ℕ) (place : ℕ) (found : FoundFolder) : Type 0 where
  pub is_there : found.is_there ≡ is_some file
  pub list : (held_lists found ≡ own) ⊎ (Contains way place × (held_lists found ≡ []))

-- whether a list is on the way
abbrev pub IsListed : Bool → Lists → Type 0
IsListed true own = (list : EntryList (List Assigned)) × (own ≡ list ∷ [])
IsListed false own = own ≡ []

-- the top, of which nothing is kept, and the folder that was sighted last
abbrev pub top_sight : Sighting
top_sight = record { folder = []; file = None }

abbrev pub last_sight : List Sighting → Sighting
last_sight [] = top_sight
last_sight (at ∷ []) = at
last_sight (at ∷ next ∷ sights) = last_sight (next ∷ sights)

-- this was sighted at a place: at the first one the top, and behind it the others in order
abbrev pub IsAt : List Sighting → ℕ → Sighting → Type 0
IsAt sights place at = slice_get (top_sight ∷ sights) place ≡ Some at

-- a folder on the way: at which place it is known, how many bytes of a path name it, and whether its list is on the way
pub record IsOnWay (own : Sighting → Lists) (sights : List Sighting) (at : Sighting) (there : FolderOnWay) : Type 0 where
  pub sighted : IsAt sights there.place at
  pub file : List ℕ
  pub stands : at.file ≡ Some file
  pub long : there.length ≡ length (start_of at.folder)
  pub listed : IsListed there.has_list (own at)

-- a folder is found by a name in another one
pub record IsLinked (sights : List Sighting) (outer : ℕ) (name : List ℕ) (place : ℕ) : Type 0 where
  pub above : Sighting
  pub at_outer : IsAt sights outer above
  pub below : Sighting
  pub at_place : IsAt sights place below
  pub deep : 0 < place
  pub folder : below.folder ≡ start_of above.folder ++ name

module _ (asked : Asked) (macros : List Definition) (shows : Folder → Option (List ℕ) → Type 0) where
  -- a folder may look so, and where it has a file, this was read
  pub record IsSighted (read : List (List ℕ)) (at : Sighting) : Type 0 where
    pub shown : shows at.folder at.file
    pub has_read : (bytes : List ℕ) → at.file ≡ Some bytes → Contains read bytes

  -- what is known of the folders by whose places something is kept, and of the names by which they are found
  pub record AreKnown (sights : List Sighting) (names : FolderNames) (held : List FoundFolder) (way : List ℕ) (read : List (List ℕ)) : Type 0 where
    pub count : names.count ≡ length held
    pub level : length held ≡ length (top_sight ∷ sights)
    pub links : (outer : ℕ) (name : List ℕ) (place : ℕ) → names.found outer name ≡ Some place → IsLinked sights outer name place
    pub sighted : AllByRecursion (IsSighted read) sights
    pub kept : (place : ℕ) (found : FoundFolder) (at : Sighting) → slice_get held place ≡ Some found → IsAt sights place at → Holds (own_lists asked macros at) at.file way place found

  -- The folders on the way to what lies right in the folder are entered, and their lists stand before the last one. These files were read
  -- of folders so far.
  pub record AreEntered (info : EntryList (List Assigned)) (lists : Lists) (folder : List ℕ) (way : List FolderOnWay) (names : FolderNames) (held : List FoundFolder) (read : List (List ℕ)) : Type 0 where
    pub sights : List Sighting
    pub known : AreKnown sights names held (places_of way) read
    pub on_way : List Sighting
    pub joined : folders_to folder ≡ [] ∷ map (λ at. at.folder) on_way
    pub each : AllZip (IsOnWay (own_lists asked macros) sights) on_way way
    pub standing : lists ≡ flat_map (own_lists asked macros) on_way ++ info ∷ []
    pub shown : AllByRecursion (λ bytes. (folder : Folder) × shows folder (Some bytes)) read
    -- what lies right in the last of them begins with the folder
    pub starts : folder ≡ start_of (last_sight on_way).folder

-- a folder is known at a place
pub record IsPlaceOf (sights : List Sighting) (folder : Folder) (place : ℕ) : Type 0 where
  pub deep : 0 < place
  pub at : Sighting
  pub there : IsAt sights place at
  pub named : at.folder ≡ folder

-- ---- the state of a walk

module _ {S Q : Type 0} (files : Files) (asked : Asked) (shows : Folder → Option (List ℕ) → Type 0) (shows_of : S → Folder → Option (List ℕ) → Type 0) where
  -- the walk asks for these attributes by these files, and the folders on the way to what lies right in its folder are entered
  pub record IsEntered (walk : FolderAttributes S Q) : Type 0 where
    pub asks : asked_by walk.asking ≡ asked
    pub macros : walk.macros.now ≡ macros_for files
    pub source : ShowsSame (shows_of walk.source) shows
    pub read : List (List ℕ)
    pub has_read : HasRead walk.asking (names_of files read)
    pub entered : AreEntered asked (macros_for files) shows (kept_list asked (macros_for files) [] files.info) (map (entry_list_of seen_assignments) walk.lists.items) walk.folder.items walk.way.items (known_names walk.known) walk.found.items read

  -- the same, and this may be found at a folder's path: its file was read
  pub record HasLooked (walk : FolderAttributes S Q) (folder : Folder) (file : Option (List ℕ)) : Type 0 where
    pub walks : IsEntered walk
    pub shown : shows folder file
    pub noted : (bytes : List ℕ) → file ≡ Some bytes → Contains walks.read bytes

  -- the same, and a folder is known at a place
  pub record Knows (walk : FolderAttributes S Q) (folder : Folder) (place : ℕ) : Type 0 where
    pub walks : IsEntered walk
    pub here : IsPlaceOf walks.entered.sights folder place

  -- the folders on the way to a path are entered as far as folders stand there: their files are found, and their lists stand before the
  -- repository's own
  pub record HasGoneTo (walk : FolderAttributes S Q) (path : List ℕ) : Type 0 where
    pub walks : IsEntered walk
    pub way : List FolderFile
    pub on_way : IsWayTo shows path way
    pub are_read : AreRead shows way walks.read
    pub standing : map (entry_list_of seen_assignments) walk.lists.items
        ≡ flat_map (λ at. unless_empty (kept_list asked (macros_for files) at.0 at.1)) way ++ kept_list asked (macros_for files) [] files.info ∷ []

-- a folder's path begins a path, and the path goes on with a name up to the slash at a place
pub record IsBefore (folder path : List ℕ) (place : ℕ) : Type 0 where
  pub begins : folder ≡ take (length folder) path
  pub inside : length folder ≤ place
  pub level : folders_to (take place path) ≡ folders_to folder

-- no slash stands at a place of a path, or behind it
pub record EndsFolders (path : List ℕ) (end : ℕ) : Type 0 where
  pub inside : end ≤ length path
  pub none : (place : ℕ) → end ≤ place → ¬ HasByte path place slash

-- the file that was read last, where its folder stands there
abbrev pub file_seen : {S Q : Type 0} → Bool → FolderAttributes S Q → Option (List ℕ)
file_seen is_there walk = if is_there then Some walk.file.items else None

-- where all attributes are asked for, the names of the file that was read last are put behind the others; nothing else changes
abbrev pub NotesNames : {S Q : Type 0} → FolderAttributes S Q → FolderAttributes S Q → Type 0
NotesNames old new =
    (new ≡ record old { asking = new.asking }) × (asked_by new.asking ≡ asked_by old.asking)
    × ((names : List (List ℕ)) → HasRead old.asking names → HasRead new.asking (with_names names (names_read false old.file.items)))
