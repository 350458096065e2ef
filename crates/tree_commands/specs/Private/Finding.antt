-- What is found of a path: the pair of places of the pattern that decides about it, over the lists of a tree.
use Rattle.std.specs.Prelude.{◌≡◌, ◌≢◌, ◌⊎◌, ℕ, Bool, true, List, [], map, take, Option, None, Some, IfSome}
use Rattle.std.specs.Option.{unwrap_or}
use Rattle.git_index.specs.Entries.{Tracked}
use Rattle.gix_glob.specs.declared.search.pattern.list.List as patterns
use Rattle.gix_glob.specs.declared.search.pattern.mapping.Mapping.{Mapping}
use Rattle.gix_glob.specs.Entries.{Entry}
use Rattle.gix_glob.specs.EntryLists.{EntryList, entry_list_of}
use Rattle.gix_glob.specs.PatternParts.{mode_of}
use Rattle.gix_glob.specs.Patterns.{is_for_directories}
use Rattle.glob_lists.specs.Paths.{IsPlainPath}
use Rattle.glob_trees.specs.TreeParts.{StandAt, TreeParts}
use Rattle.glob_trees.specs.Trees.{DecidesInTree}
use Rattle.glob_trees.specs.Ways.{AreOnTheWay, Folder, GoesOn}
use Rattle.tree_answers.specs.Lines.{Decision}
use Rattle.git_index.specs.Holding.{IsHeld, LiesInSubmodule}
use Rattle.tree_commands.specs.CheckIgnore.{LeadsTo, Question, told_path}
use Rattle.tree_commands.specs.Tops.{DecidesForTop}

-- the lists of a tree as plain data
abbrev pub lists_of : {S T X : Type 0} → TreeParts S T X → List (EntryList (Unit {0}))
lists_of tree = map (entry_list_of {V = Unit {0}} (λ _. tt)) tree.lists

-- what stays of a tree from call to call: the lists that stand before those of all folders, the rules, and what the source showed
pub record KeepsTree {S T X : Type 0} (shows : S → Folder → EntryList (Unit {0}) → Type 0) (old new : TreeParts S T X) : Type 0 where
  pub front_count : new.front_count ≡ old.front_count
  pub rules : new.rules ≡ old.rules
  pub fronts : take old.front_count new.lists ≡ take old.front_count old.lists
  pub goes_on : GoesOn shows old.source new.source

-- the pair decides about the path, of this kind, over the lists of the tree, which are those on the way to it
pub record IsFoundAs {S T X : Type 0} (shows : S → Folder → EntryList (Unit {0}) → Type 0) (tree : TreeParts S T X) (path : List ℕ) (is_dir : Bool) (pair : Option (ℕ × ℕ)) : Type 0 where
  pub on_way : AreOnTheWay (shows tree.source) tree.front_count (lists_of tree) tree.rules path
  pub decides : DecidesInTree (lists_of tree) path is_dir tree.rules pair

-- the same, of a kind that agrees with what is known
abbrev pub IsFound : {S T X : Type 0} → (S → Folder → EntryList (Unit {0}) → Type 0) → TreeParts S T X → List ℕ → Option Bool → Option (ℕ × ℕ) → Type 0
IsFound shows tree path known pair = (is_dir : Bool) × IfSome known (λ is_folder. is_dir ≡ is_folder) × IsFoundAs shows tree path is_dir pair

-- the line of an entry
abbrev pub line_of : EntryList (Unit {0}) → Entry (Unit {0}) → Decision
line_of list entry = record { source = unwrap_or list.source []; number = entry.number; mode = entry.mode; text = entry.text }

-- the pattern at this pair matches folders alone
abbrev pub WantsFolder : {T X : Type 0} → List (patterns.List T X) → Option (ℕ × ℕ) → Type 0
WantsFolder {T} {X} lists pair =
    (at : ℕ × ℕ) × (list : patterns.List T X) × (mapping : Mapping X) × (pair ≡ Some at) × StandAt lists at list mapping × (is_for_directories (mode_of mapping.pattern) ≡ true)

-- the pair decides about the top, over the lists of the tree, which are the top's
pub record IsFoundForTop {S T X : Type 0} (shows : S → Folder → EntryList (Unit {0}) → Type 0) (tree : TreeParts S T X) (pair : Option (ℕ × ℕ)) : Type 0 where
  pub on_way : AreOnTheWay (shows tree.source) tree.front_count (lists_of tree) tree.rules []
  pub decides : DecidesForTop (lists_of tree) tree.rules pair

-- what is found of what is asked: nothing, where that is no path of a repository
abbrev pub Finds : {S T X : Type 0} → (S → Folder → EntryList (Unit {0}) → Type 0) → TreeParts S T X → List ℕ → Option Bool → Option (ℕ × ℕ) → Type 0
Finds shows tree asked known pair =
    ((asked ≡ []) × IsFoundForTop shows tree pair)
    ⊎ ((asked ≢ []) × (¬ IsPlainPath asked) × (pair ≡ None))
    ⊎ (IsPlainPath asked × IsFound shows tree asked known pair)

-- what is found of what is asked, of which so many bytes are the current folder's: nothing, where an entry of the index is it
abbrev pub FindsIn : {S T X : Type 0} → (S → Folder → EntryList (Unit {0}) → Type 0) → TreeParts S T X → List Tracked → ℕ → List ℕ → Option Bool → Option (ℕ × ℕ) → Type 0
FindsIn shows tree tracked literal asked known pair =
    (IsHeld tracked asked literal × (pair ≡ None)) ⊎ ((¬ IsHeld tracked asked literal) × Finds shows tree asked known pair)

-- where a told path leads, which is into no submodule, and what is found there
pub record FindsTold {S T X : Type 0} (shows : S → Folder → EntryList (Unit {0}) → Type 0) (question : Question) (told : List ℕ) (tree : TreeParts S T X) (pair : Option (ℕ × ℕ)) : Type 0 where
  pub path : List ℕ
  pub led : LeadsTo question told path
  pub outside : ¬ LiesInSubmodule question.tracked (told_path told path)
  pub found : FindsIn shows tree question.tracked (question.literal told) (told_path told path) (question.known.kind_of path) pair
