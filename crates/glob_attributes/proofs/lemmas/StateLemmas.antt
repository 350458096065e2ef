-- What follows from a row that is filled in.
use Rattle.std.proofs.Common.{◌≡◌, ℕ, ◌+◌, Bool, true, false, cond, not, ◌&&◌, ◌||◌, List, [], ◌∷◌, ◌++◌, take, refl, sym, subst, ap, Some, ◌∙◌, arith}
use Rattle.std.specs.Prelude.{if◌then◌else◌, slice_get}
use Rattle.std.specs.List.{cons_option, list_any}
use Rattle.std.specs.Option.{option_map_or}
use Rattle.std.specs.Str.{bytes_eq}
use Rattle.std.proofs.lemmas.List.{take_more}
use Rattle.std.proofs.lemmas.List.Elements.{filter_map-append}
use Rattle.std.proofs.lemmas.Option.{get_or_from_slice_get, slice_get_within}
use Rattle.glob_attributes.specs.declared.assignment.State.{State}
use Rattle.glob_attributes.specs.declared.assignment.State.TheVariants.{Set, Unset, Unspecified, Value}
use Rattle.glob_attributes.specs.Macros.{Definition}
use Rattle.glob_attributes.specs.Private.Filling.{is_set, is_specified}
use Rattle.glob_attributes.specs.States.{Assigned, IsFilledIn, put_in, specified, state_in, states_in}
use Rattle.glob_attributes.proofs.lemmas.FillingLemmas.{first_named, put_in-if}

same_head : (x y : Assigned) (xs ys : List Assigned) → x ∷ xs ≡ y ∷ ys → x ≡ y
same_head x y xs ys same = grind arith

same_rest : (x y : Assigned) (xs ys : List Assigned) → x ∷ xs ≡ y ∷ ys → xs ≡ ys
same_rest x y xs ys same = grind arith

not_empty : (x : Assigned) (xs : List Assigned) → [] ≡ x ∷ xs → ⊥
not_empty x xs same = grind arith

pub filled-one : (macros : List Definition) (before row filled other : List Assigned) → IsFilledIn macros before row filled → IsFilledIn macros before row other → filled ≡ other
filled-one macros before row [] [] a b = refl
filled-one macros before row [] (y ∷ other) a b = absurd (not_empty y b.0 (sym a ∙ b.1))
filled-one macros before row (x ∷ filled) [] a b = absurd (not_empty x a.0 (sym b ∙ a.1))
filled-one macros before row (x ∷ filled) (y ∷ other) a b =
    let head : y ≡ x = same_head y x b.0 a.0 (sym b.1 ∙ a.1) in
    let rest : b.0 ≡ a.0 = same_rest y x b.0 a.0 (sym b.1 ∙ a.1) in
    let there : IsFilledIn macros (x ∷ before) (put_in macros before x ++ a.0) other =
    subst (λ r. IsFilledIn macros (x ∷ before) (put_in macros before x ++ r) other) rest
    (subst (λ z. IsFilledIn macros (z ∷ before) (put_in macros before z ++ b.0) other) head b.2) in
    ap (λ z. z ∷ filled) (sym head) ∙ ap (λ l. y ∷ l) (filled-one macros (x ∷ before) (put_in macros before x ++ a.0) filled other a.2 there)

nothing : (b : Bool) → ◌≡◌ {A = List Assigned} (if b then [] else []) []
nothing true = refl
nothing false = refl

pub filled-without_macros : (before row filled : List Assigned) → IsFilledIn [] before row filled → filled ≡ row
filled-without_macros before row [] a = sym a
filled-without_macros before row (x ∷ filled) a =
    let none : put_in [] before x ≡ [] = put_in-if [] before x ∙ nothing (is_set x.state && not (list_any (λ other. bytes_eq other.name x.name) before)) in
    let there = subst (λ l. IsFilledIn [] (x ∷ before) (l ++ a.0) filled) none a.2 in
    ap (λ l. x ∷ l) (filled-without_macros (x ∷ before) a.0 filled there) ∙ sym a.1

stays-filled : (before row : List Assigned) → IsFilledIn [] before row row
stays-filled before [] = refl
stays-filled before (x ∷ row) =
    let none : put_in [] before x ≡ [] = put_in-if [] before x ∙ nothing (is_set x.state && not (list_any (λ other. bytes_eq other.name x.name) before)) in
    (row, refl, subst (λ l. IsFilledIn [] (x ∷ before) (l ++ row) row) (sym none) (stays-filled (x ∷ before) row))

pub filled-itself : (before row filled : List Assigned) → filled ≡ row → IsFilledIn [] before row filled
filled-itself before row filled same = subst (IsFilledIn [] before row) (sym same) (stays-filled before row)

-- the state of a name does not depend on what follows the first that names it
state_in-front_more : (x : Assigned) (front more : List Assigned) (name : List ℕ) (b : Bool) → bytes_eq x.name name ≡ b
    → (b || list_any (λ other. bytes_eq other.name name) front) ≡ true
    → (list_any (λ other. bytes_eq other.name name) front ≡ true → state_in (front ++ more) name ≡ state_in front name)
    → state_in (x ∷ (front ++ more)) name ≡ state_in (x ∷ front) name
state_in-front_more x front more name true is named next =
    let deciding = λ (rest : List Assigned) (b : Bool). option_map_or (λ (a : Assigned). a.state) (if b then Some x else first_named name rest) Unspecified in
    ap (deciding (front ++ more)) is ∙ sym (ap (deciding front) is)
state_in-front_more x front more name false is named next =
    let deciding = λ (rest : List Assigned) (b : Bool). option_map_or (λ (a : Assigned). a.state) (if b then Some x else first_named name rest) Unspecified in
    ap (deciding (front ++ more)) is ∙ next named ∙ sym (ap (deciding front) is)

pub state_in-front : (front more : List Assigned) (name : List ℕ) → list_any (λ other. bytes_eq other.name name) front ≡ true → state_in (front ++ more) name ≡ state_in front name
state_in-front [] more name named = let no : ⊥ = grind arith in absurd no
state_in-front (x ∷ front) more name named = state_in-front_more x front more name (bytes_eq x.name name) refl named (state_in-front front more name)

-- ---- the states of names, one name after the other

taken-more : (all : List (List ℕ)) (i : ℕ) (name : List ℕ) → slice_get all i ≡ Some name → take (i + 1) all ≡ take i all ++ name ∷ []
taken-more all i name there = take_more all i name (slice_get_within all i name there) ∙ ap (λ x. take i all ++ x ∷ []) (get_or_from_slice_get all i name name there)

specified-if : (name : List ℕ) (state : State (List ℕ)) (b : Bool) → is_specified state ≡ b → cons_option (specified name state) [] ≡ cond b (record { name = name; state = state } ∷ []) []
specified-if name Set b is = ap (λ t. cond t (record { name = name; state = Set } ∷ []) []) is
specified-if name Unset b is = ap (λ t. cond t (record { name = name; state = Unset } ∷ []) []) is
specified-if name Unspecified b is = ap (λ t. cond t (record { name = name; state = Unspecified } ∷ []) []) is
specified-if name (Value bytes) b is = ap (λ t. cond t (record { name = name; state = Value bytes } ∷ []) []) is

pub states_in-more : (filled told : List Assigned) (all : List (List ℕ)) (i : ℕ) (name : List ℕ) (state : State (List ℕ)) (b : Bool)
    → slice_get all i ≡ Some name → told ≡ states_in filled (take i all) → state ≡ state_in filled name → is_specified state ≡ b
    → told ++ cond b (record { name = name; state = state } ∷ []) [] ≡ states_in filled (take (i + 1) all)
states_in-more filled told all i name state b there before is specifies =
    let each = λ (other : List ℕ). specified other (state_in filled other) in
    ap (λ l. l ++ cond b (record { name = name; state = state } ∷ []) []) before
    ∙ ap (λ l. states_in filled (take i all) ++ l) (sym (specified-if name state b specifies) ∙ ap (λ s. cons_option (specified name s) []) is)
    ∙ sym (filter_map-append each (take i all) (name ∷ []))
    ∙ sym (ap (states_in filled) (taken-more all i name there))
