-- How much macros assign, and what names no attribute.
use Rattle.std.specs.Prelude.{◌≡◌, ℕ, ◌+◌, false, List, [], ◌∷◌, length}
use Rattle.std.specs.List.{AllByRecursion}
use Rattle.std.specs.Str.{bytes_eq}
use Rattle.glob_attributes.specs.Macros.{Definition}
use Rattle.glob_attributes.specs.States.{Assigned}

-- how many assignments all macros have
abbrev pub macro_total : List Definition → ℕ
macro_total [] = 0
macro_total (macro ∷ macros) = length macro.assignments + macro_total macros

-- none of the assignments names the attribute, and none of those of macros does
abbrev pub NoneNames : List ℕ → List Assigned → Type 0
NoneNames name assignments = AllByRecursion (λ assigned. bytes_eq assigned.name name ≡ false) assignments

abbrev pub NoMacroNames : List ℕ → List Definition → Type 0
NoMacroNames name macros = AllByRecursion (λ macro. NoneNames name macro.assignments) macros
