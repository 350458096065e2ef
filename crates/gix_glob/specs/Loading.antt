-- What loading answers, and what it leaves.
use Rattle.std.specs.Prelude.{◌≡◌, ℕ, Bool, true, false, List, ◌++◌, ◌∷◌, [], Option, Some, is_none, Result, Ok, Err}
use Rattle.gix_glob.specs.declared.search.fault.LoadFault.{LoadFault}
use Rattle.gix_glob.specs.declared.search.fault.LoadFault.TheVariants.{Memory, Read}
use Rattle.gix_glob.specs.declared.search.pattern.list.List as patterns
use Rattle.gix_glob.specs.EntryLists.{EntryList, entry_list_of}
use Rattle.gix_glob.specs.Entries.{Entry}
use Rattle.gix_glob.specs.Paths.{Base}

-- the list is what a parser means by the bytes of a source, with that source and its base under the root
pub record IsLoaded {V : Type 0} (meaning : List ℕ → List ℕ → List (Entry V)) (bytes source : List ℕ) (root : Option (List ℕ)) (list : EntryList V) : Type 0 where
  pub means : list.entries ≡ meaning bytes source
  pub named : list.source ≡ Some source
  pub based : Base source root list.base

-- the lists are the old ones, and one more after them, which was loaded
pub record AddsLoadedList {T X V : Type 0} (seen : X → V) (meaning : List ℕ → List ℕ → List (Entry V)) (bytes source : List ℕ) (root : Option (List ℕ)) (old new : List (patterns.List T X)) : Type 0 where
  pub list : patterns.List T X
  pub grown : new ≡ old ++ list ∷ []
  pub loaded : IsLoaded meaning bytes source root (entry_list_of seen list)

-- the whole is the beginning, and then some rest
abbrev pub IsBeginningOf : List ℕ → List ℕ → Type 0
IsBeginningOf beginning whole = (rest : List ℕ) × (beginning ++ rest ≡ whole)

-- whether a read failed: there is no list, and memory isn't the cause
abbrev pub is_unread : {T : Type 0} → Result (Option T) LoadFault → Bool
is_unread (Ok list) = is_none list
is_unread (Err Memory) = false
is_unread (Err (Read e)) = true
