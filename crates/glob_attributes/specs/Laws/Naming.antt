-- Assignments to names that an attribute can have.
use Rattle.std.specs.Prelude.{◌≡◌, true, List}
use Rattle.std.specs.List.{AllByRecursion}
use Rattle.glob_attributes.specs.Equations.Files.{AttributeEntry}
use Rattle.glob_attributes.specs.Macros.{Definition}
use Rattle.glob_attributes.specs.Names.{is_name}
use Rattle.glob_attributes.specs.States.{Assigned}

-- each of the assignments has such a name, and so has each of those of entries, and of macros
abbrev pub HaveNames : List Assigned → Type 0
HaveNames assignments = AllByRecursion (λ assigned. is_name assigned.name ≡ true) assignments

abbrev pub EntriesHaveNames : List AttributeEntry → Type 0
EntriesHaveNames entries = AllByRecursion (λ entry. HaveNames entry.value) entries

abbrev pub MacrosHaveNames : List Definition → Type 0
MacrosHaveNames macros = AllByRecursion (λ macro. HaveNames macro.assignments) macros
