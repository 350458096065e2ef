-- The folders that are found by names are known, and the places of the folders on a way.
use Rattle.std.specs.Prelude.{◌≡◌, ◌<◌, ℕ, List, [], ◌∷◌, drop, length, Option, Some, Vec}
use Rattle.std.specs.BTreeMap.{BTreeMap}
use Rattle.glob_trees.specs.Links.{link}
use Rattle.glob_trees.specs.Ways.{Folder, start_of}

-- each folder that is found by a name is known
abbrev pub AreInside : {Z : Type 0} → List (BTreeMap (Vec ℕ Z) ℕ) → Type 0
AreInside inner = (outer : ℕ) (name : List ℕ) (place : ℕ) → link inner outer name ≡ Some place → place < length inner

-- what names a folder in the one that it lies right in
abbrev pub name_in : Folder → Folder → List ℕ
name_in outer folder = drop (length (start_of outer)) folder

-- The folders of this list, the deepest one first, each of which lies in the next one, have these places: by their names, each is
-- found in the next one. The last one is the top.
abbrev pub ArePlaces : (ℕ → List ℕ → Option ℕ) → List Folder → List ℕ → Type 0
ArePlaces found [] places = ⊥
ArePlaces found (top ∷ []) [] = ⊥
ArePlaces found (top ∷ []) (place ∷ []) = place ≡ 0
ArePlaces found (top ∷ []) (place ∷ outer ∷ places) = ⊥
ArePlaces found (folder ∷ above ∷ folders) [] = ⊥
ArePlaces found (folder ∷ above ∷ folders) (place ∷ []) = ⊥
ArePlaces found (folder ∷ above ∷ folders) (place ∷ outer ∷ places) = (found outer (name_in above folder) ≡ Some place) × ArePlaces found (above ∷ folders) (outer ∷ places)
