-- What a run asks.
use Rattle.std.specs.Prelude.{◌≡◌, ℕ, List, Option}
use Rattle.gix_glob.specs.declared.pattern.Case.{Case}
use Rattle.glob_trees.specs.Ways.{Folder}
use Rattle.tree_commands.specs.CheckAttr.{Asked, Files, IsStatesText, Query, ShowsSame}

-- the question is by these files, asks for these attributes and counts case or doesn't, the source shows this, and what is written by it is allowed
pub record AsksFor (files : Files) (asked : Asked) (case : Case) (shows : Folder → Option (List ℕ) → Type 0) (allows : List ℕ → List ℕ → Type 0) (query : Query) (shown : Folder → Option (List ℕ) → Type 0) : Type 0 where
  pub of_files : query.files ≡ files
  pub asks : query.asked ≡ asked
  pub folds : query.case ≡ case
  pub source : ShowsSame shown shows
  pub allowed : (told text : List ℕ) → IsStatesText query shows told text → allows told text
