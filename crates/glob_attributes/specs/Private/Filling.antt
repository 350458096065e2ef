-- Putting in macros: which of them have their names decided.
use Rattle.std.specs.Prelude.{◌≡◌, ℕ, ◌+◌, ◌≤◌, suc, Bool, false, true, if◌then◌else◌, List, [], ◌∷◌, length, Option, None, Some, is_some, option_map, reverse, slice_get}
use Rattle.std.specs.List.{list_any}
use Rattle.std.specs.Option.{option_map_or, option_or}
use Rattle.std.specs.Borrow.{Bor}
use Rattle.std.specs.Str.{bytes_eq}
use Rattle.std.specs.Vec.{vec_items}
use Rattle.std.specs.declared.alloc.Global.{Global}
use Rattle.std.specs.Prelude.{Vec}
use Rattle.glob_attributes.specs.declared.assignment.Assignment.{Assignment}
use Rattle.glob_attributes.specs.declared.places.Places.{Places}
use Rattle.glob_attributes.specs.Views.{assignment_with}
use Rattle.glob_attributes.specs.Macros.{Definition}
use Rattle.glob_attributes.specs.Private.Places.{place_in}
use Rattle.glob_attributes.specs.Private.Telling.{unmarked_count}
use Rattle.glob_attributes.specs.States.{Assigned, put_in}
use Rattle.glob_attributes.specs.declared.assignment.State.{State}
use Rattle.glob_attributes.specs.declared.assignment.State.TheVariants.{Set, Unspecified}

-- the place of the last macro of a name
abbrev pub last_place : List ℕ → List Definition → Option ℕ
last_place name [] = None
last_place name (macro ∷ macros) = option_or (option_map suc (last_place name macros)) (if bytes_eq macro.name name then Some 0 else None)

-- the places are those of the last macro of each name
abbrev pub HasLastPlaces : Places → List Definition → Type 0
HasLastPlaces places macros = (name : List ℕ) → place_in places name ≡ last_place name macros

-- there is a number for each of the names, and for no other
abbrev pub HasNames : Places → List (List ℕ) → Type 0
HasNames places names = (name : List ℕ) → is_some (place_in places name) ≡ list_any (λ other. bytes_eq other name) names

-- each macro that is the last of its name has a mark, which tells whether one of these names it
pub record AreMarked (macros : List Definition) (before : List Assigned) (marks : List Bool) : Type 0 where
  pub count : length marks ≡ length macros
  pub each : (name : List ℕ) (place : ℕ) → last_place name macros ≡ Some place → slice_get marks place ≡ Some (list_any (λ other. bytes_eq other.name name) before)

-- how much the macros without a mark assign
abbrev pub unmarked : List Definition → List Bool → ℕ
unmarked [] marks = 0
unmarked (macro ∷ macros) [] = 0
unmarked (macro ∷ macros) (mark ∷ marks) = (if mark then 0 else length macro.assignments) + unmarked macros marks

-- what is seen of an assignment in a row, and what the macro at a place assigns
abbrev pub seen_entry : Bor (Assignment (Vec ℕ Global)) → Assigned
seen_entry assignment = assignment_with vec_items assignment.now

abbrev pub assignments_at : List Definition → ℕ → List Assigned
assignments_at macros place = option_map_or (λ macro. macro.assignments) (slice_get macros place) []

-- whether a state is that of an attribute that is set, and whether it says something
abbrev pub is_set : {B : Type 0} → State B → Bool
is_set Set = true
is_set _ = false

abbrev pub is_specified : State (List ℕ) → Bool
is_specified Unspecified = false
is_specified _ = true

-- The macro of an assignment's name gets a mark. The place is that of the macro where the assignment puts it in: then it had none.
pub record PutsIn (macros : List Definition) (assigned : Assigned) (old new : List Bool) (place : Option ℕ) : Type 0 where
  pub count : length new ≡ length old
  pub gives : (before : List Assigned) → AreMarked macros before old → reverse (option_map_or (assignments_at macros) place []) ≡ put_in macros before assigned
  pub marked : (before : List Assigned) → AreMarked macros before old → AreMarked macros (assigned ∷ before) new
  pub fewer : length (option_map_or (assignments_at macros) place []) + unmarked macros new ≤ unmarked macros old
  pub room : option_map_or (λ p. 1) place 0 + unmarked_count new ≤ unmarked_count old
