-- The lists of folders: those on the way, and those that are kept.
use Rattle.std.specs.Prelude.{◌≡◌, ℕ, List, [], ◌∷◌, ◌++◌, slice_get, slice_set, Option, None, Some, MatchOption, is_some, option_to_list}
use Rattle.gix_glob.specs.declared.search.pattern.list.List as patterns
use Rattle.glob_trees.specs.declared.on_way.FolderOnWay.{FolderOnWay}

-- a list, where it has patterns
abbrev pub IsIfAny : {T X : Type 0} → patterns.List T X → Option (patterns.List T X) → Type 0
IsIfAny {T} {X} list kept = MatchOption kept (list.patterns.items ≡ []) (λ (other : patterns.List T X). (other ≡ list) × ¬ (list.patterns.items ≡ []))

-- the last list is kept by this place
pub record KeepsLast {L : Type 0} (place : ℕ) (lists less : List L) (kept more : List (Option L)) : Type 0 where
  pub list : L
  pub last : lists ≡ less ++ list ∷ []
  pub here : more ≡ slice_set kept place (Some list)

-- what was kept by this place, a list or none, is taken out, and follows the other lists
pub record TakesOut {L : Type 0} (place : ℕ) (lists more : List L) (kept less : List (Option L)) : Type 0 where
  pub list : Option L
  pub there : slice_get kept place ≡ Some list
  pub taken : less ≡ slice_set kept place None
  pub put : more ≡ lists ++ option_to_list list

-- the same, and the folder of this place follows the others on the way
pub record PutsKept {L : Type 0} (place long : ℕ) (folders longer : List FolderOnWay) (lists more : List L) (kept less : List (Option L)) : Type 0 where
  pub takes : TakesOut place lists more kept less
  pub way : longer ≡ folders ++ (record { place = place; length = long; has_list = is_some takes.list }) ∷ []
