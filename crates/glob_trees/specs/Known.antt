-- The folders that are known: each has a place, the top 0, and is found by its name in another one.
use Rattle.std.specs.Prelude.{◌≡◌, ◌+◌, ℕ, List, length, Option, None, Some}
use Rattle.glob_trees.specs.declared.known.KnownFolders.{KnownFolders}
use Rattle.glob_trees.specs.Links.{link}

-- how many folders are known, and the place of the folder of a name in the one at a place, where it is known
pub record FolderNames : Type 0 where
  pub count : ℕ
  pub found : ℕ → List ℕ → Option ℕ

abbrev pub names_of : KnownFolders → FolderNames
names_of known = record { count = length known.inner.items; found = link known.inner.items }

-- so many folders are known, and none of them in another one
pub record KnowsNone (names : FolderNames) (many : ℕ) : Type 0 where
  pub count : names.count ≡ many
  pub none : (outer : ℕ) (name : List ℕ) → names.found outer name ≡ None

-- one folder more is known, of this name in the one at a place; each other one is found as before, and none lies in the new one
pub record AddsFolder (old new : FolderNames) (outer : ℕ) (name : List ℕ) (place : ℕ) : Type 0 where
  pub next : place ≡ old.count
  pub count : new.count ≡ old.count + 1
  pub here : new.found outer name ≡ Some place
  pub others : (other : ℕ) (text : List ℕ) → ¬ ((other ≡ outer) × (text ≡ name)) → new.found other text ≡ old.found other text
