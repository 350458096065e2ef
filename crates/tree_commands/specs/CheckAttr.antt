-- What is written about the attributes of told paths: which files count for a path, in which order, and which of them define macros.
use Rattle.std.specs.Prelude.{◌≡◌, ◌≢◌, ◌⊎◌, ◌↔◌, ℕ, false, true, List, [], ◌∷◌, ◌++◌, Option, None, Some, codes, filter, map}
use Rattle.std.specs.List.{AllByRecursion, Contains, flat_map}
use Rattle.gix_glob.specs.declared.pattern.Case.{Case}
use Rattle.gix_glob.specs.EntryLists.{EntryList}
use Rattle.gix_glob.specs.Patterns.{looks_at_name}
use Rattle.glob_lists.specs.declared.rules.Reading.TheVariants.{Git}
use Rattle.glob_lists.specs.Paths.{IsPlainPath}
use Rattle.glob_lists.specs.Rules.{by_git}
use Rattle.glob_trees.specs.Ways.{Folder, base_of_folder, folders_to}
use Rattle.glob_attributes.specs.Equations.Files.{attributes_of}
use Rattle.glob_attributes.specs.Macros.{Definition, macros_of}
use Rattle.glob_attributes.specs.States.{Assigned, IsAssigned, Lists, state_in, states_in}
use Rattle.glob_attributes.specs.Told.{names_read, with_names}
use Rattle.git_paths.specs.declared.standpoint.Standpoint.{Standpoint}
use Rattle.git_paths.specs.Paths.{names_folder, parts_of}
use Rattle.git_paths.specs.Standpoints.{led}
use Rattle.tree_answers.specs.declared.form.Form.{Form}
use Rattle.tree_answers.specs.Attributes.{answer_text, label_text}
use Rattle.tree_answers.specs.Lines.{name_text}

-- the bytes of the attribute files that count for each path: the system's, the user's, the top's, and the repository's own; none of a file
-- that isn't there
pub record Files : Type 0 where
  pub system : List ℕ
  pub user : List ℕ
  pub top : List ℕ
  pub info : List ℕ

-- these files, the weakest first
abbrev pub files_of : Files → List (List ℕ)
files_of files = files.system ∷ files.user ∷ files.top ∷ files.info ∷ []

-- a folder below the top, and the bytes of its file
abbrev pub FolderFile : Type 0
FolderFile = Folder × List ℕ

-- the list of a file, for the paths in a folder: for all paths where that is the top, which is named by no bytes
abbrev pub list_in : Folder → List ℕ → EntryList (List Assigned)
list_in folder bytes = record { entries = attributes_of Git bytes; source = None; base = base_of_folder folder }

-- The lists that count for a path, the weakest first: the system's, the user's, the top's, those of the folders on the way to it, and the
-- repository's own.
abbrev pub lists_to : Files → List FolderFile → Lists
lists_to files way =
    list_in [] files.system ∷ list_in [] files.user ∷ list_in [] files.top ∷ (map (λ at. list_in at.0 at.1) way ++ list_in [] files.info ∷ [])

-- the list with its entries for names alone
abbrev pub names_alone : EntryList (List Assigned) → EntryList (List Assigned)
names_alone list = record { entries = filter (λ entry. looks_at_name entry.mode) list.entries; source = list.source; base = list.base }

-- the lists that count for the top, the weakest first, with their entries for names alone: no other matches it
abbrev pub lists_for_top : Files → Lists
lists_for_top files = map (λ bytes. names_alone (list_in [] bytes)) (files_of files)

-- the line that is built in
abbrev pub built_in : List ℕ
built_in = codes "[attr]binary -diff -merge -text"

-- The macros, the weakest first: a folder below the top defines none.
abbrev pub macros_for : Files → List Definition
macros_for files = flat_map macros_of (built_in ∷ files_of files)

-- the names of attributes in the order in which they are read: of these files, and then of those of folders, which were read in this order
abbrev pub names_of : Files → List (List ℕ) → List (List ℕ)
names_of files read = with_names (with_names [] (flat_map (names_read true) (built_in ∷ files_of files))) (flat_map (names_read false) read)

-- both say the same of what may be found
abbrev pub ShowsSame : (Folder → Option (List ℕ) → Type 0) → (Folder → Option (List ℕ) → Type 0) → Type 0
ShowsSame shows other = (folder : Folder) (file : Option (List ℕ)) → shows folder file ↔ other folder file

-- The folders on the way to a path, the top left out, from outer to inner, as far as folders stand there, each with its file:
-- `shows folder file` says what may be found there, `None` where no folder stands.
pub record IsWayTo (shows : Folder → Option (List ℕ) → Type 0) (path : List ℕ) (way : List FolderFile) : Type 0 where
  pub further : List Folder
  pub joined : folders_to path ≡ [] ∷ (map (λ at. at.0) way ++ further)
  pub shown : AllByRecursion (λ at. shows at.0 (Some at.1)) way
  pub ends : (folder : Folder) (below : List Folder) → further ≡ folder ∷ below → shows folder None

-- these are the bytes of files that were read of folders, and those on the way are among them
pub record AreRead (shows : Folder → Option (List ℕ) → Type 0) (way : List FolderFile) (read : List (List ℕ)) : Type 0 where
  pub shown : AllByRecursion (λ bytes. (folder : Folder) × shows folder (Some bytes)) read
  pub on_way : AllByRecursion (λ at. Contains read at.1) way

-- what is asked of each path: the states of some attributes, or of all that aren't unspecified
pub data Asked : Type 0 where
  named : List (List ℕ) → Asked
  all : Asked

-- the attributes that are told, each with its state, where these names were read
abbrev pub told_states : Asked → List (List ℕ) → List Assigned → List Assigned
told_states (named names) read filled = map (λ name. record { name = name; state = state_in filled name }) names
told_states all read filled = states_in filled read

-- each in a line or in a record of its own
abbrev pub states_text : Form → List ℕ → List Assigned → List ℕ
states_text form told states = flat_map (λ each. answer_text form (name_text form told) (label_text form each.name) each.state) states

-- what is asked, of which files, whether the case of letters counts, from where, and how it is written
pub record Query : Type 0 where
  pub files : Files
  pub asked : Asked
  pub case : Case
  pub standpoint : Standpoint
  pub form : Form

-- no bytes lead nowhere else, as a dot does
abbrev pub or_dot : List ℕ → List ℕ
or_dot [] = codes "."
or_dot (b ∷ told) = b ∷ told

-- What is assigned to the path that was told, as Git reads and matches patterns: nothing to what is no path of a repository. The top isn't
-- said to be a folder.
abbrev pub IsAssignedTo : Query → List ℕ → List ℕ → List FolderFile → List Assigned → Type 0
IsAssignedTo query told path way filled =
    ((path ≡ []) × IsAssigned (lists_for_top query.files) (macros_for query.files) (record { bytes = []; is_dir = false }) (by_git query.case) filled)
    ⊎ ((path ≢ []) × (¬ IsPlainPath path) × (filled ≡ []))
    ⊎ (IsPlainPath path × IsAssigned (lists_to query.files way) (macros_for query.files) (record { bytes = path; is_dir = names_folder false (parts_of (or_dot told)) }) (by_git query.case) filled)

-- The text about a path as it was told. What is assigned to a path is one list, by laws of `glob_attributes`.
pub record IsStatesText (query : Query) (shows : Folder → Option (List ℕ) → Type 0) (told text : List ℕ) : Type 0 where
  pub path : List ℕ
  pub leads : led query.standpoint (or_dot told) ≡ Some path
  pub way : List FolderFile
  pub on_way : IsPlainPath path → IsWayTo shows path way
  pub read : List (List ℕ)
  pub are_read : AreRead shows way read
  pub written : (filled : List Assigned) → IsAssignedTo query told path way filled
      → text ≡ states_text query.form told (told_states query.asked (names_of query.files read) filled)
