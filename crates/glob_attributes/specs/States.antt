-- The state of an attribute for a path: what the lines that match it assign, what macros put in, and which of it decides.
use Rattle.std.specs.Prelude.{◌≡◌, ℕ, if◌then◌else◌, List, [], ◌∷◌, ◌++◌, reverse, slice_get, Option, None, Some}
use Rattle.std.specs.List.{filter_map, find, flat_map, list_any}
use Rattle.std.specs.Option.{option_and_then, option_map_or}
use Rattle.std.specs.Str.{bytes_eq}
use Rattle.glob_lists.specs.declared.rules.Rules.{Rules}
use Rattle.gix_glob.specs.EntryLists.{EntryList}
use Rattle.glob_lists.specs.Matches.{AreMatches}
use Rattle.glob_lists.specs.Paths.{Path}
use Rattle.glob_attributes.specs.declared.assignment.State.{State}
use Rattle.glob_attributes.specs.declared.assignment.State.TheVariants.{Set, Unspecified}
pub use Rattle.glob_attributes.specs.Assignments.{Assigned}
use Rattle.glob_attributes.specs.Macros.{Definition}

-- the lists that attribute files give, the weakest first
abbrev pub Lists : Type 0
Lists = List (EntryList (List Assigned))

-- what the pattern at a pair of places assigns
abbrev pub assigned_at : Lists → ℕ × ℕ → List Assigned
assigned_at lists pair =
    option_map_or (λ entry. entry.value) (option_and_then (λ list. slice_get list.entries pair.1) (slice_get lists pair.0)) []

-- The row of a path: what the patterns that match it assign, turned around, so that the strongest stands first.
abbrev pub IsRow : Lists → Path → Rules → List Assigned → Type 0
IsRow lists path rules row =
    (pairs : List (ℕ × ℕ)) × AreMatches lists path.bytes path.is_dir rules pairs × (row ≡ reverse (flat_map (assigned_at lists) pairs))

-- what the last macro of a name assigns, turned around, if this state sets the name
abbrev pub given_by : List Definition → List ℕ → State (List ℕ) → List Assigned
given_by macros name Set = option_map_or (λ macro. reverse macro.assignments) (find (λ macro. bytes_eq macro.name name) (reverse macros)) []
given_by macros name _ = []

-- What stands right behind an assignment: what its macro gives, or nothing, where one of those before it has the same name.
abbrev pub put_in : List Definition → List Assigned → Assigned → List Assigned
put_in macros before assigned =
    if list_any (λ other. bytes_eq other.name assigned.name) before then [] else given_by macros assigned.name assigned.state

-- A row with what macros put in: each of its assignments, and right behind it what it puts in, in the same way.
abbrev pub IsFilledIn : List Definition → List Assigned → List Assigned → List Assigned → Type 0
IsFilledIn macros before row [] = row ≡ []
IsFilledIn macros before row (assigned ∷ filled) =
    (rest : List Assigned) × (row ≡ assigned ∷ rest) × IsFilledIn macros (assigned ∷ before) (put_in macros before assigned ++ rest) filled

-- What is assigned to a path: its row, with what macros put in.
abbrev pub IsAssigned : Lists → List Definition → Path → Rules → List Assigned → Type 0
IsAssigned lists macros path rules filled = (row : List Assigned) × IsRow lists path rules row × IsFilledIn macros [] row filled

-- the state of an attribute: the first that names it decides
abbrev pub state_in : List Assigned → List ℕ → State (List ℕ)
state_in filled name = option_map_or (λ assigned. assigned.state) (find (λ assigned. bytes_eq assigned.name name) filled) Unspecified

-- the states of those of the attributes that aren't unspecified, in the order of the names
abbrev pub specified : List ℕ → State (List ℕ) → Option Assigned
specified name Unspecified = None
specified name state = Some (record { name = name; state = state })

abbrev pub states_in : List Assigned → List (List ℕ) → List Assigned
states_in filled = filter_map (λ name. specified name (state_in filled name))
