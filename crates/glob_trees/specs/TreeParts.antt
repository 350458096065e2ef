-- What contracts see of a tree.
use Rattle.std.specs.Prelude.{◌≡◌, ℕ, List, Some, slice_get}
use Rattle.glob_lists.specs.declared.rules.Rules.{Rules}
use Rattle.gix_glob.specs.declared.search.pattern.list.List as patterns
use Rattle.gix_glob.specs.declared.search.pattern.mapping.Mapping.{Mapping}

-- its source; how many lists stand before those of all folders; the lists that decided about the path asked last; and whether the
-- case of letters counts
pub record TreeParts (S T X : Type 0) : Type 0 where
  pub source : S
  pub front_count : ℕ
  pub lists : List (patterns.List T X)
  pub rules : Rules

-- the list stands at the first place of the pair, and the mapping in it at the second one
pub record StandAt {T X : Type 0} (lists : List (patterns.List T X)) (pair : ℕ × ℕ) (list : patterns.List T X) (mapping : Mapping X) : Type 0 where
  pub of_lists : slice_get lists pair.0 ≡ Some list
  pub of_list : slice_get list.patterns.items pair.1 ≡ Some mapping

-- a mapping stands at the pair of places
abbrev pub HasMappingAt : {T X : Type 0} → List (patterns.List T X) → (ℕ × ℕ) → Type 0
HasMappingAt {T} {X} lists pair = (list : patterns.List T X) × (mapping : Mapping X) × StandAt lists pair list mapping
