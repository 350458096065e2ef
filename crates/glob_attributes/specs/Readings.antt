-- What one line of an attribute file gives, its ending left off.
use Rattle.std.specs.Prelude.{ℕ, Bool, not, ◌&&◌, ◌||◌, ◌==◌, nat_eq, nat_le, nat_lt, if◌then◌else◌, List, length, drop, map, codes}
use Rattle.std.specs.List.{before_first, list_all, starts_with}
use Rattle.glob_attributes.specs.declared.line.Silence.{Silence}
use Rattle.glob_attributes.specs.declared.line.Silence.TheVariants.{TooLong, MacroBelowTop, MacroName, AttributeName, Negative}
use Rattle.glob_attributes.specs.Assignments.{Assigned, assignment_of}
use Rattle.glob_attributes.specs.Equations.Heads.{head_of}
use Rattle.glob_attributes.specs.Names.{is_name}
use Rattle.glob_attributes.specs.Words.{after_blanks, is_blank, words_of}

-- what a line gives: nothing, nothing for a reason, a macro of a name, or what the paths of a pattern are assigned
pub data Gives : Type 0 where
  nothing : Gives
  silent : Silence → Gives
  a_macro : List ℕ → List Assigned → Gives
  a_pattern : List ℕ → List Assigned → Gives

-- What a line gives in a file where macros are defined, or in another one. A byte 0 ends the line, a pattern and the name of a macro.
unfoldable pub line_gives : Bool → List ℕ → Gives
line_gives is_top line =
    let text = before_first (λ b. b == 0) line in
    let inner = after_blanks text in
    let head = (head_of inner).0 in
    let assigned = map assignment_of (words_of (head_of inner).1) in
    let is_macro = starts_with nat_eq head (codes "[attr]") && nat_lt 6 (length head) in
    let name = before_first is_blank (before_first (λ b. b == 0) (after_blanks (drop 6 head))) in
    if length inner == 0 || starts_with nat_eq inner (codes "#") then nothing
    else (if nat_le 2048 (length text) then silent TooLong
    else (if is_macro && not is_top then silent MacroBelowTop
    else (if is_macro && not (is_name name) then silent MacroName
    else (if not (list_all (λ assignment. is_name assignment.name) assigned) then silent AttributeName
    else (if is_macro then a_macro name assigned
    else (if starts_with nat_eq head (codes "!") then silent Negative
    else a_pattern (before_first (λ b. b == 0) head) assigned))))))
