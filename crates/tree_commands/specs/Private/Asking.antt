-- What the asker of `check-ignore` asks, and what it appends about a path.
use Rattle.std.specs.Prelude.{◌≡◌, ◌⊎◌, ◌||◌, ◌++◌, ◌∷◌, [], Bool, List, ℕ}
use Rattle.gix_glob.specs.EntryLists.{EntryList}
use Rattle.glob_trees.specs.Ways.{Folder}
use Rattle.tree_commands.specs.declared.check_ignore.asking.IgnoreAsker.{IgnoreAsker}
use Rattle.tree_commands.specs.declared.check_ignore.fault.IgnoreFault.{IgnoreFault}
use Rattle.tree_commands.specs.declared.check_ignore.fault.IgnoreFault.TheVariants.{BadlyQuoted}
use Rattle.tree_commands.specs.CheckIgnore.{IsIgnoreText, Known, Question, Refuses, question_of}

-- what is asked of each path
abbrev pub asked_by : {S K T X : Type 0} → (K → Known) → IgnoreAsker S K T X → Question
asked_by known asker = question_of asker.standpoint.now asker.flags asker.tracked asker.finder.tree (known asker.finder.kinds)

-- The text about a told path was appended, and it is kept in mind whether a line that counts decides about it.
pub record TellsLine (question : Question) (shows : Folder → EntryList (Unit {0}) → Type 0) (told : List ℕ) (was_any is_any : Bool) (old new : List ℕ) : Type 0 where
  pub is_counted : Bool
  pub added : List ℕ
  pub allowed : IsIgnoreText question shows is_counted (told ∷ []) added
  pub written : new ≡ old ++ added
  pub any : is_any ≡ (was_any || is_counted)

-- why a record got no answer
abbrev pub IsRecordFault : {F : Type 0} → Question → IgnoreFault F → Type 0
IsRecordFault question fault = ((told : List ℕ) × Refuses question told fault) ⊎ (fault ≡ BadlyQuoted)
