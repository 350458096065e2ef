-- Which patterns may decide about attributes that are asked for.
use Rattle.std.specs.Prelude.{ℕ, Bool, ◌||◌, List}
use Rattle.std.specs.List.{list_any}
use Rattle.std.specs.Str.{bytes_eq}
use Rattle.glob_attributes.specs.Macros.{Definition}
use Rattle.glob_attributes.specs.States.{Assigned}

-- the name is a macro's, or one of those that are asked for
abbrev pub counts : List (List ℕ) → List Definition → List ℕ → Bool
counts names macros name = list_any (λ macro. bytes_eq macro.name name) macros || list_any (λ other. bytes_eq other name) names

-- one of the assignments has such a name
abbrev pub concerns : List (List ℕ) → List Definition → List Assigned → Bool
concerns names macros assignments = list_any (λ assigned. counts names macros assigned.name) assignments
