-- Which paths a list of elements matches.
use Rattle.std.specs.Prelude.{◌≡◌, ◌⊎◌, ◌<◌, ◌≤◌, Bool, true, false, List, ℕ, Some, slice_get, take}
use Rattle.std.specs.List.{All, Any}
use Rattle.pathspecs.specs.declared.manner.Manner.{Manner}
use Rattle.pathspecs.specs.declared.manner.Manner.TheVariants as manner
use Rattle.pathspecs.specs.Elements.{LeadsInto, Meets, MeetsBy, PathspecItem}

-- some exclude, or some positive element, meets the path
abbrev pub IsMet : Bool → List PathspecItem → List ℕ → Type 0
IsMet exclude items path = Any (λ item. (item.magic.exclude ≡ exclude) × Meets item path) items

-- a list matches a path: some positive element meets it, and no exclude does
abbrev pub Matches : List PathspecItem → List ℕ → Type 0
Matches items path = IsMet false items path × ¬ IsMet true items path

-- a list may match a path in a folder: some positive element meets the folder or leads into it, and no exclude meets it
abbrev pub MayMatchIn : List PathspecItem → List ℕ → Type 0
MayMatchIn items folder = Any (λ item. (item.magic.exclude ≡ false) × (Meets item folder ⊎ LeadsInto item folder)) items × ¬ IsMet true items folder

-- how strongly an exclude, or a positive element, meets a path: an exclude does most, then one by its text, by its pattern, and by what lies
-- below its text
abbrev pub strength : Bool → Manner → ℕ
strength true way = 4
strength false manner.Exact = 3
strength false manner.Wild = 2
strength false manner.Below = 1

-- the element at a place meets the path most strongly, and is the first of those
abbrev pub IsWhich : List PathspecItem → List ℕ → ℕ → Type 0
IsWhich items path place = (item : PathspecItem) × (way : Manner) × (slice_get items place ≡ Some item) × MeetsBy way item path
    × All (λ other. (its : Manner) → MeetsBy its other path → strength other.magic.exclude its ≤ strength item.magic.exclude way) items
    × All (λ other. (its : Manner) → MeetsBy its other path → strength other.magic.exclude its < strength item.magic.exclude way) (take place items)
