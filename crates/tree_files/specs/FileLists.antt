-- Which lists files of patterns give. Of real files nothing is known but that each has some bytes.
use Rattle.std.specs.Prelude.{◌≡◌, ◌⊎◌, ℕ, List, [], map, None, Some, codes}
use Rattle.gix_glob.specs.Entries.{Entry}
use Rattle.gix_glob.specs.EntryLists.{EntryList}
use Rattle.gix_glob.specs.Loading.{IsLoaded}
use Rattle.glob_lines.specs.Equations.GitLines.{git_entries_of}
use Rattle.glob_lines.specs.Plain.{PlainEntry}
use Rattle.glob_trees.specs.Ways.{Folder}
use Rattle.git_paths.specs.Paths.{below}

-- the list is what a parser means by some bytes of the file of this name; or it has no patterns, as where no file is read
abbrev pub IsOfFile : {V : Type 0} → (List ℕ → List ℕ → List (Entry V)) → List ℕ → EntryList V → Type 0
IsOfFile meaning name list = (list.entries ≡ []) ⊎ ((bytes : List ℕ) × IsLoaded meaning bytes name None list)

-- an entry without its value
abbrev pub plain : {V : Type 0} → Entry V → PlainEntry
plain e = record { text = e.text; mode = e.mode; place = e.place; value = tt; number = e.number }

-- the patterns of the list are those that some bytes spell, as Git reads them, and it is of the file of this name if it has any
pub record IsSpelled {V : Type 0} (name : List ℕ) (list : EntryList V) : Type 0 where
  pub bytes : List ℕ
  pub spelled : map plain list.entries ≡ git_entries_of bytes
  pub named : (list.entries ≡ []) ⊎ (list.source ≡ Some name)

-- the list of a folder: that of its own file
abbrev pub IsOfFolder : {V : Type 0} → Folder → EntryList V → Type 0
IsOfFolder folder list = IsSpelled (below folder (codes ".gitignore")) list
