-- The folders that were entered, and what is kept of each folder.
use Rattle.std.specs.Prelude.{◌≡◌, ◌⊎◌, ℕ, ◌<◌, ◌≤◌, List, [], ◌∷◌, ◌++◌, drop, length, map, reverse, slice_get, take, Option, Some, MatchOption, IsTrue, ◌↔◌}
use Rattle.std.specs.List.{AllZip, Contains}
use Rattle.glob_lists.specs.declared.rules.Rules.{Rules}
use Rattle.gix_glob.specs.declared.search.pattern.list.List as patterns
use Rattle.gix_glob.specs.EntryLists.{EntryList, entry_list_of}
use Rattle.glob_lists.specs.Deciding.{BasesAreFolders}
use Rattle.glob_trees.specs.declared.entered.Entered.{Entered}
use Rattle.glob_trees.specs.declared.on_way.FolderOnWay.{FolderOnWay}
use Rattle.glob_trees.specs.Known.{FolderNames, names_of}
use Rattle.glob_trees.specs.Private.Known.{ArePlaces}
use Rattle.glob_trees.specs.Trees.{HasNoneIgnored, Ignores}
use Rattle.glob_trees.specs.Ways.{Folder, GoesOn, IsListOf, folders_to, start_of, unless_empty, with_entries}

-- The lists past the first `front_count` are those of the folders on the way to what lies at the front of a path that have entries,
-- and none of these folders is ignored.
pub record AreEntered {V : Type 0} (shows : Folder → EntryList V → Type 0) (front_count : ℕ) (lists : List (EntryList V)) (rules : Rules) (front : List ℕ) (own : List (EntryList V)) : Type 0 where
  pub many : front_count ≤ length lists
  pub bases : BasesAreFolders lists
  pub shown : AllZip (IsListOf shows) (folders_to front) own
  pub standing : drop front_count lists ≡ with_entries own
  pub none : HasNoneIgnored lists rules front

-- what is known of a folder: its path, the lists with entries of the folders above it, and its own list
pub record Facts (V : Type 0) : Type 0 where
  pub folder : Folder
  pub above : List (EntryList V)
  pub own : EntryList V

-- the lists with entries of the folder and of those above it
abbrev pub lists_to : {V : Type 0} → Facts V → List (EntryList V)
lists_to facts = facts.above ++ unless_empty facts.own

-- the folder at a place has one of this name, at another place
pub record IsInner {V : Type 0} (outer : Facts V) (name : List ℕ) (inner : Facts V) : Type 0 where
  pub folder : inner.folder ≡ start_of outer.folder ++ name
  pub above : inner.above ≡ lists_to outer

-- a folder that was asked for: the source shows its list, and the lists above it don't ignore it
pub record IsKnown {V : Type 0} (shows : Folder → EntryList V → Type 0) (fronts : List (EntryList V)) (rules : Rules) (facts : Facts V) : Type 0 where
  pub of : IsListOf shows facts.folder facts.own
  pub unignored : ¬ (facts.folder ≡ []) → (pair : ℕ × ℕ) → ¬ Ignores (fronts ++ facts.above) rules facts.folder pair

-- a folder on the way: at which place it is known, how many bytes of a path name it, and whether its list has entries
pub record IsOnWay {V : Type 0} (facts : ℕ → Facts V) (count : ℕ) (folder : Folder) (there : FolderOnWay) : Type 0 where
  pub inside : there.place < count
  pub named : (facts there.place).folder ≡ folder
  pub long : there.length ≡ length (start_of folder)
  pub listed : IsTrue there.has_list ↔ (unless_empty (facts there.place).own ≡ (facts there.place).own ∷ [])

-- the places of the folders on the way, and their lists
abbrev pub places_of : List FolderOnWay → List ℕ
places_of way = map (λ there. there.place) way

abbrev pub own_lists : {V : Type 0} → (ℕ → Facts V) → List FolderOnWay → List (EntryList V)
own_lists facts way = map (λ there. (facts there.place).own) way

-- what is kept by a place: the folder's own list, or none where the folder is on the way, or has no list with entries
abbrev pub HoldsOwn : {T X V : Type 0} → (X → V) → List ℕ → ℕ → EntryList V → Option (patterns.List T X) → Type 0
HoldsOwn {T} {X} seen way place own kept = MatchOption kept
    (Contains way place ⊎ (unless_empty own ≡ []))
    (λ (list : patterns.List T X). (entry_list_of seen list ≡ own) × (unless_empty own ≡ own ∷ []))

-- what is known of the folders by whose places something is kept, and of the names by which they are found
pub record AreKnown {T X V : Type 0} (seen : X → V) (shows : Folder → EntryList V → Type 0) (fronts : List (EntryList V)) (rules : Rules) (facts : ℕ → Facts V) (names : FolderNames) (held : List (Option (patterns.List T X))) (way : List ℕ) : Type 0 where
  pub count : names.count ≡ length held
  pub links : (outer : ℕ) (name : List ℕ) (place : ℕ) → names.found outer name ≡ Some place → (place < length held) × IsInner (facts outer) name (facts place) × (outer < length held)
  pub known : (place : ℕ) → place < length held → IsKnown shows fronts rules (facts place)
  pub kept : (place : ℕ) (list : Option (patterns.List T X)) → slice_get held place ≡ Some list → HoldsOwn seen way place (facts place).own list

-- the folder entered last: the others stand before it
pub record EndsIn {V : Type 0} (facts : ℕ → Facts V) (lists : List (EntryList V)) (start : List ℕ) (way : List FolderOnWay) : Type 0 where
  pub above : List FolderOnWay
  pub last : FolderOnWay
  pub joined : way ≡ above ++ last ∷ []
  pub starts : start ≡ start_of (facts last.place).folder
  pub listed : lists ≡ lists_to (facts last.place)

-- each folder whose list was given is found by names from the top
abbrev pub AreAtHand : (Folder → Type 0) → FolderNames → Type 0
AreAtHand gave names = (folder : Folder) → gave folder → (places : List ℕ) × ArePlaces names.found (reverse (folders_to (start_of folder))) places

-- The folders on the way to what lies at the front of a path are entered: their lists with entries stand past the first
-- `front_count`, and `start` is how the path of what lies in the last of them begins.
pub record AreUnderWay {T X V : Type 0} (shows : Folder → EntryList V → Type 0) (gave : Folder → Type 0) (seen : X → V) (front_count : ℕ) (rules : Rules) (lists : List (EntryList V)) (start : List ℕ) (way : List FolderOnWay) (names : FolderNames) (held : List (Option (patterns.List T X))) (front : List ℕ) : Type 0 where
  pub facts : ℕ → Facts V
  pub known : AreKnown seen shows (take front_count lists) rules facts names held (places_of way)
  pub stands : AreEntered shows front_count lists rules front (own_lists facts way)
  pub on_way : AllZip (IsOnWay facts (length held)) (folders_to front) way
  pub places : ArePlaces names.found (reverse (folders_to front)) (reverse (places_of way))
  pub ends : EndsIn facts (drop front_count lists) start way
  pub at_hand : AreAtHand gave names

module _ {S T X F V : Type 0} (shows : S → Folder → EntryList V → Type 0) (gave : S → Folder → Type 0) (seen : X → V) where
  -- the same of what was entered
  abbrev pub IsUnderWay : Entered T S X F → List ℕ → Type 0
  IsUnderWay entered front =
      AreUnderWay (shows entered.source) (gave entered.source) seen entered.front_count entered.rules (map (entry_list_of seen) entered.lists.items) entered.folder.items entered.way.items (names_of entered.known) entered.kept.items front

  -- the folders on the way to something are entered
  abbrev pub IsSomewhere : Entered T S X F → Type 0
  IsSomewhere entered = (front : List ℕ) × IsUnderWay entered front

  -- nothing is known, not even the top, and no list was given
  pub record IsFresh (entered : Entered T S X F) : Type 0 where
    pub count : length entered.lists.items ≡ entered.front_count
    pub bases : BasesAreFolders (map (entry_list_of seen) entered.lists.items)
    pub way : entered.way.items ≡ []
    pub folder : entered.folder.items ≡ []
    pub known : (names_of entered.known).count ≡ 0
    pub kept : entered.kept.items ≡ []
    pub none_given : (folder : Folder) → ¬ gave entered.source folder

  -- nothing was asked yet, or the folders on the way to something are entered
  abbrev pub IsReady : Entered T S X F → Type 0
  IsReady entered = IsFresh entered ⊎ IsSomewhere entered

-- this folder is the last one on the way, where one is
abbrev pub EndsWith : List FolderOnWay → FolderOnWay → Type 0
EndsWith way last = (above : List FolderOnWay) (there : FolderOnWay) → way ≡ above ++ there ∷ [] → last ≡ there

-- the place of the folder that stands before a place of a path, in the folder that is entered last, as far as it is known
abbrev pub IsNamed : {S T X F : Type 0} → Entered T S X F → List ℕ → ℕ → Option ℕ → Type 0
IsNamed entered path place result = (above : List FolderOnWay) (last : FolderOnWay) → entered.way.items ≡ above ++ last ∷ []
    → result ≡ (names_of entered.known).found last.place (drop last.length (take place path))

-- all but this folder
abbrev pub gave_but : {S : Type 0} → (S → Folder → Type 0) → Folder → S → Folder → Type 0
gave_but gave folder source other = gave source other × ¬ (other ≡ folder)

-- the lists that stand before those of all folders are there
pub record HasFronts {S T X F V : Type 0} (seen : X → V) (entered : Entered T S X F) : Type 0 where
  pub many : entered.front_count ≤ length entered.lists.items
  pub bases : BasesAreFolders (map (entry_list_of seen) entered.lists.items)

-- what stays from call to call: the lists that stand before those of all folders, the case, and what the source showed
pub record KeepsOn {S T X F V : Type 0} (shows : S → Folder → EntryList V → Type 0) (old new : Entered T S X F) : Type 0 where
  pub front_count : new.front_count ≡ old.front_count
  pub rules : new.rules ≡ old.rules
  pub fronts : take old.front_count new.lists.items ≡ take old.front_count old.lists.items
  pub goes_on : GoesOn shows old.source new.source
