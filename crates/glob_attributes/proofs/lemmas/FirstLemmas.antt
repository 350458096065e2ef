-- The first of some assignments that names an attribute, with one assignment more.
use Rattle.std.proofs.Common.{◌≡◌, ⊎_elim, ℕ, ◌+◌, Bool, true, false, List, [], ◌∷◌, ◌++◌, take, Option, None, Some, refl, ap, sym, subst, ◌∙◌}
use Rattle.std.specs.Prelude.{MatchOption, if◌then◌else◌, slice_get}
use Rattle.std.specs.List.{find}
use Rattle.std.specs.Option.{is_some, option_or}
use Rattle.std.specs.Str.{bytes_eq}
use Rattle.std.proofs.lemmas.Bool.{both_ways, cases_Bool, true≢false}
use Rattle.std.proofs.lemmas.List.{take_more}
use Rattle.std.proofs.lemmas.List.Folds.{find-append}
use Rattle.std.proofs.lemmas.Option.{MatchOption-at_none, get_or_from_slice_get, slice_get_within}
use Rattle.glob_attributes.specs.declared.places.Places.{Places}
use Rattle.glob_attributes.specs.Private.Firsts.{AreFirst, IsFirstAt}
use Rattle.glob_attributes.specs.Private.Places.{place_in}
use Rattle.glob_attributes.specs.States.{Assigned}
use Rattle.glob_attributes.proofs.lemmas.FillingLemmas.{same_name}

abbrev named : List ℕ → Assigned → Bool
named name assigned = bytes_eq assigned.name name

find-one : (name : List ℕ) (front : List Assigned) (assigned : Assigned) (b : Bool) → bytes_eq assigned.name name ≡ b
    → find (named name) (front ++ assigned ∷ []) ≡ option_or (find (named name) front) (if b then Some assigned else None)
find-one name front assigned true is = find-append (named name) front (assigned ∷ []) ∙ rw is refl
find-one name front assigned false is = find-append (named name) front (assigned ∷ []) ∙ rw is refl

-- one more that doesn't name the attribute, or not first
pub first-kept : (filled front : List Assigned) (name : List ℕ) (assigned : Assigned) (place : Option ℕ)
    → (bytes_eq assigned.name name ≡ true → place ≡ None → ⊥)
    → MatchOption place (find (named name) front ≡ None) (IsFirstAt filled front name)
    → MatchOption place (find (named name) (front ++ assigned ∷ []) ≡ None) (IsFirstAt filled (front ++ assigned ∷ []) name)
first-kept filled front name assigned None other none = ⊎_elim
    (λ (is : bytes_eq assigned.name name ≡ true). absurd (other is refl))
    (λ (is : bytes_eq assigned.name name ≡ false). find-one name front assigned false is ∙ rw none refl)
    (cases_Bool (bytes_eq assigned.name name))
first-kept filled front name assigned (Some place) other first =
    let there = first.first in ⊎_elim
    (λ (is : bytes_eq assigned.name name ≡ true). record { assigned = first.assigned; there = first.there; first = find-one name front assigned true is ∙ rw there refl })
    (λ (is : bytes_eq assigned.name name ≡ false). record { assigned = first.assigned; there = first.there; first = find-one name front assigned false is ∙ rw there refl })
    (cases_Bool (bytes_eq assigned.name name))

-- one more that names the attribute first
pub first-found : (filled front : List Assigned) (name : List ℕ) (assigned : Assigned) (place : ℕ)
    → bytes_eq assigned.name name ≡ true → slice_get filled place ≡ Some assigned → find (named name) front ≡ None
    → IsFirstAt filled (front ++ assigned ∷ []) name place
first-found filled front name assigned place is there none = record { assigned = assigned; there = there; first = find-one name front assigned true is ∙ rw none refl }

taken-one : (all : List Assigned) (i : ℕ) (assigned : Assigned) → slice_get all i ≡ Some assigned → take (i + 1) all ≡ take i all ++ assigned ∷ []
taken-one all i assigned there =
    take_more all i assigned (slice_get_within all i assigned there) ∙ ap (λ x. take i all ++ x ∷ []) (get_or_from_slice_get all i assigned assigned there)

-- the attribute has a place
pub AreFirst-kept : (all : List Assigned) (i : ℕ) (assigned : Assigned) (places : Places) → slice_get all i ≡ Some assigned
    → (place_in places assigned.name ≡ None → ⊥) → AreFirst all (take i all) places → AreFirst all (take (i + 1) all) places
AreFirst-kept all i assigned places there placed before name =
    subst (λ front. MatchOption (place_in places name) (find (named name) front ≡ None) (IsFirstAt all front name)) (sym (taken-one all i assigned there))
    (first-kept all (take i all) name assigned (place_in places name)
    (λ is none. placed (ap (place_in places) (same_name assigned.name name is) ∙ none))
    (before name))

-- the attribute has none, and is given this one
pub AreFirst-more : (all : List Assigned) (i : ℕ) (assigned : Assigned) (places after : Places) → slice_get all i ≡ Some assigned
    → place_in places assigned.name ≡ None → ((other : List ℕ) → place_in after other ≡ (if bytes_eq assigned.name other then Some i else place_in places other))
    → AreFirst all (take i all) places → AreFirst all (take (i + 1) all) after
AreFirst-more all i assigned places after there none set before name =
    subst (λ front. MatchOption (place_in after name) (find (named name) front ≡ None) (IsFirstAt all front name)) (sym (taken-one all i assigned there))
    (⊎_elim
    (λ (is : bytes_eq assigned.name name ≡ true).
    let unplaced : place_in places name ≡ None = ap (place_in places) (sym (same_name assigned.name name is)) ∙ none in
    let unnamed : find (named name) (take i all) ≡ None = MatchOption-at_none (find (named name) (take i all) ≡ None) (IsFirstAt all (take i all) name) unplaced (before name) in
    let given : place_in after name ≡ Some i = set name ∙ rw is refl in
    subst (λ o. MatchOption o (find (named name) (take i all ++ assigned ∷ []) ≡ None) (IsFirstAt all (take i all ++ assigned ∷ []) name)) (sym given)
    (first-found all (take i all) name assigned i is there unnamed))
    (λ (is : bytes_eq assigned.name name ≡ false).
    let same : place_in after name ≡ place_in places name = set name ∙ rw is refl in
    subst (λ o. MatchOption o (find (named name) (take i all ++ assigned ∷ []) ≡ None) (IsFirstAt all (take i all ++ assigned ∷ []) name)) (sym same)
    (first-kept all (take i all) name assigned (place_in places name) (λ other _. both_ways (bytes_eq assigned.name name) is other) (before name)))
    (cases_Bool (bytes_eq assigned.name name)))

pub none_from : (place : Option ℕ) → is_some place ≡ false → place ≡ None
none_from None none = refl
none_from (Some place) none = absurd (true≢false none)
