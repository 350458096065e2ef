-- Putting in macros: places of names, marks, and one assignment more.
use Rattle.std.proofs.Common.{◌≡◌, ℕ, ◌+◌, ◌<◌, ◌≤◌, suc, zero, Bool, true, false, not, ◌&&◌, ◌||◌, List, [], ◌∷◌, ◌++◌, length, map, reverse, Option, None, Some, refl, sym, subst, ap, ◌∙◌, append_assoc, set, replicate, take, drop, arith}
use Rattle.std.specs.Prelude.{if◌then◌else◌, option_map, slice_get}
use Rattle.std.specs.List.{find, list_any}
use Rattle.std.specs.Option.{MatchOption, option_map_or, option_or}
use Rattle.std.specs.Str.{bytes_eq}
use Rattle.std.proofs.lemmas.List.{get_or-replicate, length-replicate, length-set, length-take-le, take_more, map_push, reverse-append}
use Rattle.std.proofs.lemmas.List.Folds.{find-append}
use Rattle.std.proofs.lemmas.Option.{get_or_from_slice_get, MatchOption-at_none, MatchOption-at_some, none-some, same_Some, slice_get-get_or, slice_get_within}
use Rattle.std.proofs.lemmas.Slice.Eq.{bytes_eq-Decides}
use Rattle.glob_attributes.specs.Macros.{Definition}
use Rattle.glob_attributes.specs.Private.Filling.{AreMarked, assignments_at, is_set, last_place, unmarked}
use Rattle.glob_attributes.specs.declared.assignment.State.{State}
use Rattle.glob_attributes.specs.declared.assignment.State.TheVariants.{Set, Unset, Unspecified, Value}
use Rattle.glob_attributes.specs.States.{Assigned, IsFilledIn, given_by, put_in, state_in}

-- the first that names an attribute, and the last macro of a name
abbrev pub first_named : List ℕ → List Assigned → Option Assigned
first_named name = find (λ assigned. bytes_eq assigned.name name)

abbrev pub last_named : List ℕ → List Definition → Option Definition
last_named name macros = find (λ macro. bytes_eq macro.name name) (reverse macros)

-- the macro at the last place of a name
pub record IsMacroAt (macros : List Definition) (name : List ℕ) (place : ℕ) : Type 0 where
  pub macro : Definition
  pub there : slice_get macros place ≡ Some macro
  pub named : bytes_eq macro.name name ≡ true
  pub last : last_named name macros ≡ Some macro

abbrev pub only_if : {X : Type 0} → Bool → X → Option X
only_if b x = if b then Some x else None

pub last_named-cons : (name : List ℕ) (m : Definition) (ms : List Definition) → last_named name (m ∷ ms) ≡ option_or (last_named name ms) (only_if (bytes_eq m.name name) m)
last_named-cons name m ms =
    let test = λ (macro : Definition). bytes_eq macro.name name in
    ap (find test) (reverse-append (m ∷ []) ms) ∙ find-append test (reverse ms) (m ∷ [])

last_place-cases_more : (name : List ℕ) (m : Definition) (ms : List Definition) (o : Option ℕ) → MatchOption o (last_named name ms ≡ None) (IsMacroAt ms name)
    → (b : Bool) → bytes_eq m.name name ≡ b → MatchOption (option_or (option_map suc o) (only_if b 0)) (last_named name (m ∷ ms) ≡ None) (IsMacroAt (m ∷ ms) name)
last_place-cases_more name m ms (Some p) at b is =
    record { macro = at.macro; there = at.there; named = at.named; last = last_named-cons name m ms ∙ ap (λ o. option_or o (only_if (bytes_eq m.name name) m)) at.last }
last_place-cases_more name m ms None none true is =
    record { macro = m; there = refl; named = is; last = last_named-cons name m ms ∙ ap (λ o. option_or o (only_if (bytes_eq m.name name) m)) none ∙ ap (λ b. only_if b m) is }
last_place-cases_more name m ms None none false is =
    last_named-cons name m ms ∙ ap (λ o. option_or o (only_if (bytes_eq m.name name) m)) none ∙ ap (λ b. only_if b m) is

pub last_place-cases : (name : List ℕ) (macros : List Definition) → MatchOption (last_place name macros) (last_named name macros ≡ None) (IsMacroAt macros name)
last_place-cases name [] = refl
last_place-cases name (m ∷ ms) = last_place-cases_more name m ms (last_place name ms) (last_place-cases name ms) (bytes_eq m.name name) refl

pub macro_at : (name : List ℕ) (macros : List Definition) (p : ℕ) → last_place name macros ≡ Some p → IsMacroAt macros name p
macro_at name macros p is = MatchOption-at_some (last_named name macros ≡ None) (IsMacroAt macros name) p is (last_place-cases name macros)

-- a macro more at the end
last_place-push_more : (o : Option ℕ) (n : ℕ) (b other : Bool)
    → option_or (option_map suc (if b then Some n else o)) (only_if other 0) ≡ (if b then Some (suc n) else option_or (option_map suc o) (only_if other 0))
last_place-push_more o n true other = refl
last_place-push_more o n false other = refl

pub last_place-push : (name : List ℕ) (ms : List Definition) (m : Definition)
    → last_place name (ms ++ m ∷ []) ≡ (if bytes_eq m.name name then Some (length ms) else last_place name ms)
last_place-push name [] m = refl
last_place-push name (x ∷ ms) m =
    ap (λ o. option_or (option_map suc o) (only_if (bytes_eq x.name name) 0)) (last_place-push name ms m)
    ∙ last_place-push_more (last_place name ms) (length ms) (bytes_eq m.name name) (bytes_eq x.name name)

-- an element of a list after a write
pub slice_get-set_here : {X : Type 0} (xs : List X) (i : ℕ) (x y : X) → slice_get xs i ≡ Some x → slice_get (set xs i y) i ≡ Some y
slice_get-set_here [] i x y there = absurd (none-some x there)
slice_get-set_here (z ∷ xs) zero x y there = refl
slice_get-set_here (z ∷ xs) (suc i) x y there = slice_get-set_here xs i x y there

pub slice_get-set_other : {X : Type 0} (xs : List X) (i j : ℕ) (y : X) → (j ≡ i → ⊥) → slice_get (set xs i y) j ≡ slice_get xs j
slice_get-set_other [] i j y apart = refl
slice_get-set_other (z ∷ xs) zero zero y apart = absurd (apart refl)
slice_get-set_other (z ∷ xs) zero (suc j) y apart = refl
slice_get-set_other (z ∷ xs) (suc i) zero y apart = refl
slice_get-set_other (z ∷ xs) (suc i) (suc j) y apart = slice_get-set_other xs i j y (λ (same : j ≡ i). apart (ap suc same))

pub slice_get-replicate : (n i : ℕ) → i < n → slice_get (replicate n false) i ≡ Some false
slice_get-replicate n i within =
    slice_get-get_or (replicate n false) i false (omega (arith, length-replicate n false)) ∙ ap Some (get_or-replicate n i false false within)

pub set-same : {X : Type 0} (xs : List X) (i : ℕ) (x : X) → slice_get xs i ≡ Some x → set xs i x ≡ xs
set-same [] i x there = refl
set-same (z ∷ xs) zero x there = ap (λ y. y ∷ xs) (sym (same_Some z x there))
set-same (z ∷ xs) (suc i) x there = ap (λ ys. z ∷ ys) (set-same xs i x there)

-- names that are the same bytes
pub same_name : (x y : List ℕ) → bytes_eq x y ≡ true → x ≡ y
same_name x y is = (bytes_eq-Decides x y).0 is

is_named : (x y : List ℕ) → x ≡ y → bytes_eq x y ≡ true
is_named x y is = (bytes_eq-Decides x y).1 is

abbrev pub names : List ℕ → Assigned → Bool
names name other = bytes_eq other.name name

-- the marks after an assignment whose name is a macro's, and after another one
marked-at : (macros : List Definition) (before : List Assigned) (marks : List Bool) (a : Assigned) (p : ℕ) → AreMarked macros before marks → last_place a.name macros ≡ Some p
    → slice_get marks p ≡ Some (list_any (names a.name) before)
    → (name : List ℕ) (q : ℕ) → last_place name macros ≡ Some q → (b : Bool) → bytes_eq a.name name ≡ b → slice_get (set marks p true) q ≡ Some (b || list_any (names name) before)
marked-at macros before marks a p marked is there name q at true named =
    let same : q ≡ p = same_Some q p (sym at ∙ ap (λ n. last_place n macros) (sym (same_name a.name name named)) ∙ is) in
    ap (slice_get (set marks p true)) same ∙ slice_get-set_here marks p (list_any (names a.name) before) true there
marked-at macros before marks a p marked is there name q at false other =
    let here = macro_at a.name macros p is in
    let its = macro_at name macros q at in
    let apart : q ≡ p → ⊥ = λ (same : q ≡ p).
    let one : its.macro ≡ here.macro = same_Some its.macro here.macro (sym its.there ∙ ap (slice_get macros) same ∙ here.there) in
    let equal : a.name ≡ name = sym (same_name here.macro.name a.name here.named) ∙ ap (λ (m : Definition). m.name) (sym one) ∙ same_name its.macro.name name its.named in
    let no : true ≡ false = sym (is_named a.name name equal) ∙ other in
    cc in
    slice_get-set_other marks p q true apart ∙ marked.each name q at

pub marked-more : (macros : List Definition) (before : List Assigned) (marks : List Bool) (a : Assigned) (p : ℕ) → AreMarked macros before marks → last_place a.name macros ≡ Some p
    → AreMarked macros (a ∷ before) (set marks p true)
marked-more macros before marks a p marked is = record {
  count = length-set marks p true ∙ marked.count;
  each = λ name q at. marked-at macros before marks a p marked is (marked.each a.name p is) name q at (bytes_eq a.name name) refl;
}

pub marked-same : (macros : List Definition) (before : List Assigned) (marks : List Bool) (a : Assigned) (p : ℕ) → AreMarked macros before marks → last_place a.name macros ≡ Some p
    → slice_get marks p ≡ Some true → AreMarked macros (a ∷ before) marks
marked-same macros before marks a p marked is there = subst (AreMarked macros (a ∷ before)) (set-same marks p true there) (marked-more macros before marks a p marked is)

marked-none_at : (macros : List Definition) (before : List Assigned) (marks : List Bool) (a : Assigned) → AreMarked macros before marks → last_place a.name macros ≡ None
    → (name : List ℕ) (q : ℕ) → last_place name macros ≡ Some q → (b : Bool) → bytes_eq a.name name ≡ b → slice_get marks q ≡ Some (b || list_any (names name) before)
marked-none_at macros before marks a marked is name q at true named =
    absurd (none-some q (sym is ∙ ap (λ n. last_place n macros) (same_name a.name name named) ∙ at))
marked-none_at macros before marks a marked is name q at false other = marked.each name q at

pub marked-none : (macros : List Definition) (before : List Assigned) (marks : List Bool) (a : Assigned) → AreMarked macros before marks → last_place a.name macros ≡ None
    → AreMarked macros (a ∷ before) marks
marked-none macros before marks a marked is = record {
  count = marked.count;
  each = λ name q at. marked-none_at macros before marks a marked is name q at (bytes_eq a.name name) refl;
}

-- what a macro assigns counts no more once it is marked
pub unmarked-less : (macros : List Definition) (marks : List Bool) (p : ℕ) → slice_get marks p ≡ Some false
    → length (assignments_at macros p) + unmarked macros (set marks p true) ≤ unmarked macros marks
unmarked-less [] marks p there = omega arith
unmarked-less (m ∷ macros) [] p there = absurd (none-some false there)
unmarked-less (m ∷ macros) (b ∷ marks) zero there =
    let is : b ≡ false = same_Some b false there in
    rw is (omega arith)
unmarked-less (m ∷ macros) (b ∷ marks) (suc p) there = omega (arith, unmarked-less macros marks p there)

-- what an assignment puts in
abbrev given : List Definition → List ℕ → List Assigned
given macros name = option_map_or (λ (macro : Definition). reverse macro.assignments) (last_named name macros) []

given_by-if : (macros : List Definition) (name : List ℕ) (state : State (List ℕ)) (b : Bool) → is_set state ≡ b → given_by macros name state ≡ (if b then given macros name else [])
given_by-if macros name Set b is = ap (λ t. if t then given macros name else []) is
given_by-if macros name Unset b is = ap (λ t. if t then given macros name else []) is
given_by-if macros name Unspecified b is = ap (λ t. if t then given macros name else []) is
given_by-if macros name (Value bytes) b is = ap (λ t. if t then given macros name else []) is

both_tests : (named sets : Bool) (gave : List Assigned) → (if named then [] else (if sets then gave else [])) ≡ (if sets && not named then gave else [])
both_tests true true gave = refl
both_tests true false gave = refl
both_tests false true gave = refl
both_tests false false gave = refl

pub put_in-if : (macros : List Definition) (before : List Assigned) (a : Assigned) → put_in macros before a ≡ (if is_set a.state && not (list_any (names a.name) before) then given macros a.name else [])
put_in-if macros before a =
    ap (λ (l : List Assigned). if list_any (names a.name) before then [] else l) (given_by-if macros a.name a.state (is_set a.state) refl)
    ∙ both_tests (list_any (names a.name) before) (is_set a.state) (given macros a.name)

put_in-nothing : (macros : List Definition) (before : List Assigned) (a : Assigned) → given macros a.name ≡ [] → (b : Bool) → (if b then given macros a.name else []) ≡ []
put_in-nothing macros before a none true = none
put_in-nothing macros before a none false = refl

pub put_in-none : (macros : List Definition) (before : List Assigned) (a : Assigned) → last_place a.name macros ≡ None → put_in macros before a ≡ []
put_in-none macros before a is =
    let none : last_named a.name macros ≡ None = MatchOption-at_none (last_named a.name macros ≡ None) (IsMacroAt macros a.name) is (last_place-cases a.name macros) in
    put_in-if macros before a ∙ put_in-nothing macros before a (ap (λ o. option_map_or (λ (macro : Definition). reverse macro.assignments) o []) none) (is_set a.state && not (list_any (names a.name) before))

put_in-unset_more : (b : Bool) (given : List Assigned) → (if b && false then given else []) ≡ []
put_in-unset_more true given = refl
put_in-unset_more false given = refl

pub put_in-marked : (macros : List Definition) (before : List Assigned) (marks : List Bool) (a : Assigned) (p : ℕ) → AreMarked macros before marks → last_place a.name macros ≡ Some p
    → slice_get marks p ≡ Some true → put_in macros before a ≡ []
put_in-marked macros before marks a p marked is there =
    let named : list_any (names a.name) before ≡ true = same_Some _ _ (sym (marked.each a.name p is) ∙ there) in
    put_in-if macros before a ∙ ap (λ b. if is_set a.state && not b then given macros a.name else []) named ∙ put_in-unset_more (is_set a.state) (given macros a.name)

pub put_in-unset : (macros : List Definition) (before : List Assigned) (a : Assigned) → is_set a.state ≡ false → put_in macros before a ≡ []
put_in-unset macros before a is = put_in-if macros before a ∙ ap (λ b. if b && not (list_any (names a.name) before) then given macros a.name else []) is

pub put_in-set : (macros : List Definition) (before : List Assigned) (marks : List Bool) (a : Assigned) (p : ℕ) → AreMarked macros before marks → last_place a.name macros ≡ Some p
    → slice_get marks p ≡ Some false → is_set a.state ≡ true → put_in macros before a ≡ reverse (assignments_at macros p)
put_in-set macros before marks a p marked is there set =
    let here = macro_at a.name macros p is in
    let unnamed : list_any (names a.name) before ≡ false = same_Some _ _ (sym (marked.each a.name p is) ∙ there) in
    put_in-if macros before a ∙ ap (λ b. if b && not (list_any (names a.name) before) then given macros a.name else []) set
    ∙ ap (λ b. if not b then given macros a.name else []) unnamed
    ∙ ap (λ o. option_map_or (λ (macro : Definition). reverse macro.assignments) o []) here.last
    ∙ sym (ap (λ (o : Option Definition). reverse (option_map_or (λ (macro : Definition). macro.assignments) o [])) here.there)

-- no macro is marked at the beginning
pub marked-new : (macros : List Definition) → AreMarked macros [] (replicate (length macros) false)
marked-new macros = record {
  count = length-replicate (length macros) false;
  each = λ name place is.
      let at = macro_at name macros place is in
      slice_get-replicate (length macros) place (slice_get_within macros place at.macro at.there);
}

-- one assignment of what is left is taken, and what it puts in is left too
pub filled-more : (macros : List Definition) (row before told new_told left new_left : List Assigned) (a : Assigned) (gave : List Assigned)
    → new_told ≡ told ++ a ∷ [] → left ≡ a ∷ before → new_left ≡ gave ++ before → gave ≡ put_in macros (reverse told) a
    → ((more : List Assigned) → IsFilledIn macros (reverse told) left more → IsFilledIn macros [] row (told ++ more))
    → (more : List Assigned) → IsFilledIn macros (reverse new_told) new_left more → IsFilledIn macros [] row (new_told ++ more)
filled-more macros row rest told new_told left new_left a gave grown taken added put filled more h =
    let turned : reverse new_told ≡ a ∷ reverse told = ap reverse grown ∙ reverse-append told (a ∷ []) in
    let left_is : new_left ≡ put_in macros (reverse told) a ++ rest = added ∙ ap (λ l. l ++ rest) put in
    let there : IsFilledIn macros (a ∷ reverse told) (put_in macros (reverse told) a ++ rest) more =
    subst (λ b. IsFilledIn macros b (put_in macros (reverse told) a ++ rest) more) turned
    (subst (λ l. IsFilledIn macros (reverse new_told) l more) left_is h) in
    let all : IsFilledIn macros [] row (told ++ (a ∷ more)) = filled (a ∷ more) (rest, taken, there) in
    subst (IsFilledIn macros [] row) (sym (ap (λ l. l ++ more) grown ∙ append_assoc told (a ∷ []) more)) all

pub reverse_map_push : {X Y : Type 0} (f : X → Y) (xs : List X) (x : X) → reverse (map f (xs ++ x ∷ [])) ≡ f x ∷ reverse (map f xs)
reverse_map_push f xs x = ap reverse (map_push f xs x) ∙ reverse-append (map f xs) (f x ∷ [])

pub place_within : (name : List ℕ) (macros : List Definition) (p : ℕ) → last_place name macros ≡ Some p → p < length macros
place_within name macros p is = let at = macro_at name macros p is in slice_get_within macros p at.macro at.there

pub last_place-take : (name : List ℕ) (macros : List Definition) (i : ℕ) (m : Definition) → slice_get macros i ≡ Some m
    → last_place name (take (i + 1) macros) ≡ (if bytes_eq m.name name then Some i else last_place name (take i macros))
last_place-take name macros i m there =
    let within = slice_get_within macros i m there in
    ap (last_place name) (take_more macros i m within ∙ ap (λ x. take i macros ++ x ∷ []) (get_or_from_slice_get macros i m m there))
    ∙ last_place-push name (take i macros) m
    ∙ ap (λ n. if bytes_eq m.name name then Some n else last_place name (take i macros)) (length-take-le i macros (omega arith))

drop-at : {X : Type 0} (xs : List X) (i : ℕ) (x : X) → slice_get xs i ≡ Some x → drop i xs ≡ x ∷ drop (suc i) xs
drop-at [] i x there = absurd (none-some x there)
drop-at (z ∷ xs) zero x there = ap (λ y. y ∷ xs) (same_Some z x there)
drop-at (z ∷ xs) (suc i) x there = drop-at xs i x there

-- what decides, from a place on
pub state_in-first : (a : Assigned) (rest : List Assigned) (name : List ℕ) (b : Bool) → bytes_eq a.name name ≡ b → state_in (a ∷ rest) name ≡ (if b then a.state else state_in rest name)
state_in-first a rest name true is = ap (λ b. option_map_or (λ (x : Assigned). x.state) (if b then Some a else first_named name rest) Unspecified) is
state_in-first a rest name false is = ap (λ b. option_map_or (λ (x : Assigned). x.state) (if b then Some a else first_named name rest) Unspecified) is

pub state_in-at : (xs : List Assigned) (i : ℕ) (a : Assigned) (name : List ℕ) (b : Bool) → slice_get xs i ≡ Some a → bytes_eq a.name name ≡ b
    → state_in (drop i xs) name ≡ (if b then a.state else state_in (drop (i + 1) xs) name)
state_in-at xs i a name b there is =
    let next : suc i ≡ i + 1 = omega arith in
    ap (λ l. state_in l name) (drop-at xs i a there) ∙ state_in-first a (drop (suc i) xs) name b is
    ∙ ap (λ n. if b then a.state else state_in (drop n xs) name) next

pub empty_items : {X : Type 0} (xs : List X) → length xs ≡ 0 → xs ≡ []
empty_items [] none = refl
empty_items (x ∷ xs) none = let no : ⊥ = omega arith in absurd no
