-- Lists of which one keeps only what some names need: what is assigned to a path then, and its states.
use Rattle.std.proofs.Common.{◌≡◌, inl, inr, ⊎_elim, ℕ, zero, suc, ◌<◌, Bool, true, false, cond, ◌||◌, List, [], ◌∷◌, ◌++◌, length, map, option_map, reverse, Option, None, Some, Bor, refl, sym, subst, ap, ◌∙◌, arith}
use Rattle.std.specs.Prelude.{All, filter, if◌then◌else◌, is_some, slice_index_or}
use Rattle.std.specs.List.{list_any}
use Rattle.std.specs.Option.{option_or}
use Rattle.std.specs.Str.{bytes_eq}
use Rattle.std.proofs.lemmas.Bool.{cases_Bool}
use Rattle.std.proofs.lemmas.Slice.Eq.{bytes_eq-Decides}
use Rattle.glob_lists.specs.declared.rules.Rules.{Rules}
use Rattle.gix_glob.specs.Entries.{Entry}
use Rattle.gix_glob.specs.EntryLists.{EntryList}
use Rattle.glob_lists.specs.Paths.{Path}
use Rattle.glob_attributes.specs.Macros.{Definition}
use Rattle.glob_attributes.specs.Narrowing.{concerns, counts}
use Rattle.glob_attributes.specs.Private.Filling.{last_place}
use Rattle.glob_attributes.specs.Private.Narrowing.{assigns_named, is_named}
use Rattle.glob_attributes.specs.States.{Assigned, IsAssigned, Lists, state_in}
use Rattle.glob_attributes.proofs.lemmas.GivenLemmas.{EntriesGive, ListsGive, given-row, row-given}
use Rattle.glob_attributes.proofs.lemmas.NarrowingLemmas.{Thinned, any-map, filled-thinned, state-thinned, thinned-append, thinned-gone, thinned-reverse, thinned-same}

pub filter-map : {X Y : Type 0} (f : X → Y) (test : Y → Bool) (xs : List X) → map f (filter (λ x. test (f x)) xs) ≡ filter test (map f xs)
filter-map f test [] = refl
filter-map f test (x ∷ xs) =
    ⊎_elim
    (λ yes. ap (λ b. map f (cond b (x ∷ filter (λ x. test (f x)) xs) (filter (λ x. test (f x)) xs))) yes
    ∙ ap (λ l. f x ∷ l) (filter-map f test xs) ∙ sym (ap (λ b. cond b (f x ∷ filter test (map f xs)) (filter test (map f xs))) yes))
    (λ no. ap (λ b. map f (cond b (x ∷ filter (λ x. test (f x)) xs) (filter (λ x. test (f x)) xs))) no
    ∙ filter-map f test xs ∙ sym (ap (λ b. cond b (f x ∷ filter test (map f xs)) (filter test (map f xs))) no))
    (cases_Bool (test (f x)))

-- two tests that answer alike keep the same
pub filter-alike : {X : Type 0} (test other : X → Bool) → ((x : X) → test x ≡ other x) → (xs : List X) → filter test xs ≡ filter other xs
filter-alike test other alike [] = refl
filter-alike test other alike (x ∷ xs) =
    ap (λ l. cond (test x) (x ∷ l) l) (filter-alike test other alike xs) ∙ ap (λ b. cond b (x ∷ filter other xs) (filter other xs)) (alike x)

any-alike : {X : Type 0} (test other : X → Bool) → ((x : X) → test x ≡ other x) → (xs : List X) → list_any test xs ≡ list_any other xs
any-alike test other alike [] = refl
any-alike test other alike (x ∷ xs) = ap (λ b. test x || b) (any-alike test other alike xs) ∙ ap (λ b. b || list_any other xs) (alike x)

or_true : (a b : Bool) → b ≡ true → (a || b) ≡ true
or_true true b is = refl
or_true false b is = is

any-here : {X : Type 0} (test : X → Bool) (x : X) (xs : List X) → test x ≡ true → list_any test (x ∷ xs) ≡ true
any-here test x xs is = ap (λ b. b || list_any test xs) is

any-at : {X : Type 0} (test : X → Bool) (xs : List X) (k : ℕ) (d : X) → k < length xs → test (slice_index_or xs k d) ≡ true → list_any test xs ≡ true
any-at test [] k d within is = absurd (omega (arith, within))
any-at test (x ∷ xs) zero d within is = any-here test x xs is
any-at test (x ∷ xs) (suc k) d within is = or_true (test x) (list_any test xs) (any-at test xs k d (omega (arith, within)) is)

-- a name has a place among macros where one of them has it
placed-more : (o : Option ℕ) (here more : Bool) → is_some o ≡ more → is_some (option_or (option_map suc o) (if here then Some 0 else None)) ≡ (here || more)
placed-more None true more is = refl
placed-more None false more is = is
placed-more (Some place) true more is = refl
placed-more (Some place) false more is = is

placed : (name : List ℕ) (macros : List Definition) → is_some (last_place name macros) ≡ list_any (λ macro. bytes_eq macro.name name) macros
placed name [] = refl
placed name (macro ∷ macros) =
    placed-more (last_place name macros) (bytes_eq macro.name name) (list_any (λ (m : Definition). bytes_eq m.name name) macros) (placed name macros)

module _ (names : List (Bor (List ℕ))) (macros : List Definition) where
  counts-named : (name : List ℕ) → is_named names macros name ≡ counts (map (λ (other : Bor (List ℕ)). other.now) names) macros name
  counts-named name =
      ap (λ b. b || list_any (λ (other : Bor (List ℕ)). bytes_eq other.now name) names) (placed name macros)
      ∙ ap (λ b. list_any (λ (m : Definition). bytes_eq m.name name) macros || b) (sym (any-map (λ (other : Bor (List ℕ)). other.now) (λ other. bytes_eq other name) names))

  pub concerns-named : (assignments : List Assigned) → assigns_named names macros assignments ≡ concerns (map (λ (other : Bor (List ℕ)). other.now) names) macros assignments
  concerns-named assignments =
      any-alike (λ (a : Assigned). is_named names macros a.name) (λ (a : Assigned). counts (map (λ (other : Bor (List ℕ)). other.now) names) macros a.name)
      (λ a. counts-named a.name) assignments

  abbrev pub needed : Entry (List Assigned) → Bool
  needed entry = assigns_named names macros entry.value

  abbrev pub narrowed : EntryList (List Assigned) → EntryList (List Assigned)
  narrowed list = record { entries = filter needed list.entries; source = list.source; base = list.base }

  module _ (path : Path) (rules : Rules) where
    abbrev KeepsSome : Option (List ℕ) → List (Entry (List Assigned)) → List Assigned → Type 0
    KeepsSome base entries given = (kept : List Assigned) × EntriesGive path rules base entries kept × Thinned names macros given kept

    abbrev Keeps : Option (List ℕ) → List (Entry (List Assigned)) → Type 0
    Keeps base entries = (given : List Assigned) → EntriesGive path rules base entries given → KeepsSome base (filter needed entries) given

    entry_kept : (base : Option (List ℕ)) (entry : Entry (List Assigned)) (entries : List (Entry (List Assigned))) → Keeps base entries
        → (given : List Assigned) → EntriesGive path rules base (entry ∷ entries) given → (b : Bool) → needed entry ≡ b → KeepsSome base (cond b (entry ∷ filter needed entries) (filter needed entries)) given
    entry_kept base entry entries next given (inl its) true is =
        let more = next its.1.0 its.1.2 in (
          entry.value ++ more.0,
          inl (its.0, (more.0, refl, more.1)),
          subst (λ l. Thinned names macros l (entry.value ++ more.0)) (sym its.1.1)
              (thinned-append names macros entry.value its.1.0 entry.value more.0 (thinned-same names macros entry.value) more.2),
        )
    entry_kept base entry entries next given (inl its) false is =
        let more = next its.1.0 its.1.2 in (
          more.0,
          more.1,
          subst (λ l. Thinned names macros l more.0) (sym its.1.1) (thinned-gone names macros entry.value its.1.0 more.0 is more.2),
        )
    entry_kept base entry entries next given (inr its) true is =
        let more = next given its.1 in (more.0, inr (its.0, more.1), more.2)
    entry_kept base entry entries next given (inr its) false is = next given its.1

    entries_kept : (base : Option (List ℕ)) (entries : List (Entry (List Assigned))) → Keeps base entries
    entries_kept base [] given h = (given, h, thinned-same names macros given)
    entries_kept base (entry ∷ entries) given h = entry_kept base entry entries (entries_kept base entries) given h (needed entry) refl

    lists_kept : (front after : Lists) (list : EntryList (List Assigned)) (given : List Assigned) → ListsGive path rules (front ++ list ∷ after) given
        → (kept : List Assigned) × ListsGive path rules (front ++ narrowed list ∷ after) kept × Thinned names macros given kept
    lists_kept [] after list given h =
        let own = entries_kept list.base list.entries h.0 h.3 in (
          own.0 ++ h.1,
          (own.0, h.1, refl, own.1, h.4),
          subst (λ l. Thinned names macros l (own.0 ++ h.1)) (sym h.2) (thinned-append names macros h.0 h.1 own.0 h.1 own.2 (thinned-same names macros h.1)),
        )
    lists_kept (first ∷ front) after list given h =
        let more = lists_kept front after list h.1 h.4 in (
          h.0 ++ more.0,
          (h.0, more.0, refl, h.3, more.1),
          subst (λ l. Thinned names macros l (h.0 ++ more.0)) (sym h.2) (thinned-append names macros h.0 h.1 h.0 more.0 (thinned-same names macros h.0) more.2),
        )

    -- what is assigned to a path by all entries is thinned by what is left of them
    assigned_kept : (front after : Lists) (list : EntryList (List Assigned)) (filled : List Assigned) → IsAssigned (front ++ list ∷ after) macros path rules filled
        → (kept : List Assigned) × IsAssigned (front ++ narrowed list ∷ after) macros path rules kept × Thinned names macros filled kept
    assigned_kept front after list filled h =
        let given = given-row (front ++ list ∷ after) path rules h.0 h.1 in
        let some = lists_kept front after list given.0 given.2 in
        let thin = subst (λ l. Thinned names macros l (reverse some.0)) (sym given.1) (thinned-reverse names macros given.0 some.0 some.2) in
        let all = filled-thinned names macros filled h.0 (reverse some.0) [] [] h.2 (λ name is. refl) thin in (
          all.0,
          (reverse some.0, row-given (front ++ narrowed list ∷ after) path rules some.0 some.1, all.1),
          all.2,
        )

  asked_counts : All (λ (name : Bor (List ℕ)). is_named names macros name.now ≡ true) names
  asked_counts k d within =
      let name = (slice_index_or names k d).now in
      or_true (is_some (last_place name macros)) (list_any (λ (other : Bor (List ℕ)). bytes_eq other.now name) names)
      (any-at (λ (other : Bor (List ℕ)). bytes_eq other.now name) names k d within ((bytes_eq-Decides name name).1 refl))

  pub states_kept : (list : EntryList (List Assigned)) (entries : List (Entry (List Assigned))) → entries ≡ filter needed list.entries
      → (front after : Lists) (path : Path) (rules : Rules) (filled : List Assigned) → IsAssigned (front ++ list ∷ after) macros path rules filled
      → (kept : List Assigned) × IsAssigned (front ++ record { entries = entries; source = list.source; base = list.base } ∷ after) macros path rules kept
      × All (λ (name : Bor (List ℕ)). state_in kept name.now ≡ state_in filled name.now) names
  states_kept list entries is front after path rules filled h =
      let all = assigned_kept path rules front after list filled h in (
        all.0,
        subst (λ es. IsAssigned (front ++ record { entries = es; source = list.source; base = list.base } ∷ after) macros path rules all.0) (sym is) all.1,
        λ k d within. state-thinned names macros filled all.0 (slice_index_or names k d).now (asked_counts k d within) all.2,
      )
