-- The parts of a line, and what a head and the rest of its line give.
use Rattle.std.specs.Prelude.{ℕ, Bool, not, ◌&&◌, ◌||◌, ◌==◌, nat_eq, nat_lt, if◌then◌else◌, List, length, drop, map, Option, None, Some, codes}
use Rattle.std.specs.List.{before_first, list_all, starts_with}
use Rattle.std.specs.Str.{byte}
use Rattle.glob_attributes.specs.declared.line.Silence.TheVariants.{MacroBelowTop, MacroName, AttributeName, Negative}
use Rattle.glob_attributes.specs.Assignments.{Assigned, assignment_of}
use Rattle.glob_attributes.specs.Names.{is_name}
use Rattle.glob_attributes.specs.Readings.{Gives, a_macro, a_pattern, silent}
use Rattle.glob_attributes.specs.Words.{after_blanks, is_blank, words_of}

abbrev pub is_equals : ℕ → Bool
is_equals b = b == byte "="

abbrev pub is_zero : ℕ → Bool
is_zero b = b == 0

-- what the words of a text assign, where each name is valid
abbrev pub assignments_of : List ℕ → Option (List Assigned)
assignments_of text =
    let assigned = map assignment_of (words_of text) in
    if list_all (λ assignment. is_name assignment.name) assigned then Some assigned else None

-- whether nothing is left of a line behind its blanks, or a comment
abbrev pub says_nothing : List ℕ → Bool
says_nothing inner = length inner == 0 || starts_with nat_eq inner (codes "#")

-- a head that defines a macro, and the name of that macro
abbrev pub is_macro : List ℕ → Bool
is_macro head = starts_with nat_eq head (codes "[attr]") && nat_lt 6 (length head)

abbrev pub macro_name : List ℕ → List ℕ
macro_name head = before_first is_blank (before_first is_zero (after_blanks (drop 6 head)))

-- what a line gives whose words have valid names, and else why it says nothing
abbrev pub assigning : Option (List Assigned) → (List Assigned → Gives) → Gives
assigning None give = silent AttributeName
assigning (Some assigned) give = give assigned

-- what a head that defines a macro, and the rest of its line, give
abbrev pub macro_reading : Bool → List ℕ → List ℕ → Gives
macro_reading is_top head rest =
    if not is_top then silent MacroBelowTop
    else (if not (is_name (macro_name head)) then silent MacroName
    else assigning (assignments_of rest) (a_macro (macro_name head)))

-- what another head and the rest of its line give
abbrev pub pattern_reading : List ℕ → List ℕ → Gives
pattern_reading head rest =
    assigning (assignments_of rest)
    (λ assigned. if starts_with nat_eq head (codes "!") then silent Negative else a_pattern (before_first is_zero head) assigned)
