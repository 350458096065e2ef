-- What a word behind the head of a line assigns.
use Rattle.std.specs.Prelude.{ℕ, ◌==◌, nat_eq, if◌then◌else◌, List, drop, codes}
use Rattle.std.specs.List.{after_first, before_first, list_any, starts_with}
use Rattle.std.specs.Str.{byte}
use Rattle.glob_attributes.specs.declared.assignment.Assignment.{Assignment}
use Rattle.glob_attributes.specs.declared.assignment.State.TheVariants.{Set, Unset, Unspecified, Value}

abbrev pub Assigned : Type 0
Assigned = Assignment (List ℕ)

-- `-name` unsets, `!name` leaves unspecified, `name=value` gives a value, and another word is a name that it sets
abbrev pub assignment_of : List ℕ → Assigned
assignment_of word =
    let is_equals = λ (b : ℕ). b == byte "=" in
    if starts_with nat_eq word (codes "-") then record { name = before_first is_equals (drop 1 word); state = Unset }
    else (if starts_with nat_eq word (codes "!") then record { name = before_first is_equals (drop 1 word); state = Unspecified }
    else (if list_any is_equals word then record { name = before_first is_equals word; state = Value (after_first is_equals word) }
    else record { name = word; state = Set }))
