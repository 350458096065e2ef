-- The first of some assignments that names an attribute.
use Rattle.std.specs.Prelude.{◌≡◌, ℕ, List, MatchOption, None, Some, slice_get}
use Rattle.std.specs.List.{find}
use Rattle.std.specs.Str.{bytes_eq}
use Rattle.glob_attributes.specs.declared.places.Places.{Places}
use Rattle.glob_attributes.specs.Private.Places.{place_in}
use Rattle.glob_attributes.specs.States.{Assigned}

-- the assignment at a place is the first of the front ones that names the attribute
pub record IsFirstAt (filled front : List Assigned) (name : List ℕ) (place : ℕ) : Type 0 where
  pub assigned : Assigned
  pub there : slice_get filled place ≡ Some assigned
  pub first : find (λ assigned. bytes_eq assigned.name name) front ≡ Some assigned

-- each attribute that one of the front assignments names has the place of the first of them, and no other one has a place
abbrev pub AreFirst : List Assigned → List Assigned → Places → Type 0
AreFirst filled front places =
    (name : List ℕ) → MatchOption (place_in places name) (find (λ assigned. bytes_eq assigned.name name) front ≡ None) (IsFirstAt filled front name)
