-- Which patterns say something of the attributes that are asked for.
use Rattle.std.specs.Prelude.{ℕ, Bool, ◌||◌, List, is_some}
use Rattle.std.specs.List.{list_any}
use Rattle.std.specs.Borrow.{Bor}
use Rattle.std.specs.Str.{bytes_eq}
use Rattle.glob_attributes.specs.Macros.{Definition}
use Rattle.glob_attributes.specs.Private.Filling.{last_place}
use Rattle.glob_attributes.specs.States.{Assigned}

-- the name is a macro's, or one of these names
abbrev pub is_named : List (Bor (List ℕ)) → List Definition → List ℕ → Bool
is_named names macros name = is_some (last_place name macros) || list_any (λ other. bytes_eq other.now name) names

-- one of the assignments has such a name
abbrev pub assigns_named : List (Bor (List ℕ)) → List Definition → List Assigned → Bool
assigns_named names macros assignments = list_any (λ assigned. is_named names macros assigned.name) assignments
