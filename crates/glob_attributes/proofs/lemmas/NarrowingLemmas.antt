-- Rows that lack elements whose names are neither asked for nor a macro's: they are filled in alike, and give the asked names the same states.
use Rattle.std.proofs.Common.{◌≡◌, ◌⊎◌, inl, inr, ⊎_elim, ℕ, Bool, true, false, ◌||◌, List, [], ◌∷◌, ◌++◌, map, reverse, Option, None, Some, Bor, refl, sym, subst, ap, ◌∙◌, append-nil}
use Rattle.std.specs.Prelude.{if◌then◌else◌, is_some}
use Rattle.std.specs.List.{list_any}
use Rattle.std.specs.Str.{bytes_eq}
use Rattle.std.proofs.lemmas.Bool.{cases_Bool, false≢true}
use Rattle.std.proofs.lemmas.List.{reverse-append}
use Rattle.std.proofs.lemmas.Slice.Eq.{bytes_eq-Decides}
use Rattle.glob_attributes.specs.Macros.{Definition}
use Rattle.glob_attributes.specs.Private.Filling.{last_place}
use Rattle.glob_attributes.specs.Private.Narrowing.{assigns_named, is_named}
use Rattle.glob_attributes.specs.States.{Assigned, IsFilledIn, given_by, put_in, state_in}
use Rattle.glob_attributes.proofs.lemmas.FillingLemmas.{names as names_it, put_in-none, state_in-at}

pub any-map : {X Y : Type 0} (f : X → Y) (test : Y → Bool) (xs : List X) → list_any test (map f xs) ≡ list_any (λ x. test (f x)) xs
any-map f test [] = refl
any-map f test (x ∷ xs) = ap (λ b. test (f x) || b) (any-map f test xs)

neither : (a b : Bool) → (a || b) ≡ false → (a ≡ false) × (b ≡ false)
neither true b is = absurd (false≢true (sym is))
neither false b is = (refl, is)

is_none : {X : Type 0} (o : Option X) → is_some o ≡ false → o ≡ None
is_none None is = refl
is_none (Some x) is = absurd (false≢true (sym is))

module _ (names : List (Bor (List ℕ))) (macros : List Definition) where
  abbrev counts : List ℕ → Bool
  counts name = is_named names macros name

  -- what is left of a row: an element may be missing whose name doesn't count
  abbrev pub Thinned : List Assigned → List Assigned → Type 0
  Thinned [] kept = kept ≡ []
  Thinned (a ∷ row) kept = ((counts a.name ≡ false) × Thinned row kept) ⊎ ((more : List Assigned) × (kept ≡ a ∷ more) × Thinned row more)

  -- both have the same of the names that count
  abbrev Agree : List Assigned → List Assigned → Type 0
  Agree before left = (name : List ℕ) → counts name ≡ true → list_any (names_it name) before ≡ list_any (names_it name) left

  -- ---- rows that are thinned

  pub thinned-same : (row : List Assigned) → Thinned row row
  thinned-same [] = refl
  thinned-same (a ∷ row) = inr (row, refl, thinned-same row)

  pub thinned-append : (row more kept rest : List Assigned) → Thinned row kept → Thinned more rest → Thinned (row ++ more) (kept ++ rest)
  thinned-append [] more kept rest front back = subst (λ l. Thinned more (l ++ rest)) (sym front) back
  thinned-append (a ∷ row) more kept rest (inl gone) back = inl (gone.0, thinned-append row more kept rest gone.1 back)
  thinned-append (a ∷ row) more kept rest (inr stays) back =
      inr (stays.0 ++ rest, ap (λ l. l ++ rest) stays.1, thinned-append row more stays.0 rest stays.2 back)

  pub thinned-gone : (gone row kept : List Assigned) → assigns_named names macros gone ≡ false → Thinned row kept → Thinned (gone ++ row) kept
  thinned-gone [] row kept none thin = thin
  thinned-gone (a ∷ gone) row kept none thin =
      let both = neither (counts a.name) (assigns_named names macros gone) none in
      inl (both.0, thinned-gone gone row kept both.1 thin)

  thinned-last : (row kept : List Assigned) (a : Assigned) → counts a.name ≡ false → Thinned row kept → Thinned (row ++ a ∷ []) kept
  thinned-last row kept a none thin =
      subst (Thinned (row ++ a ∷ [])) (append-nil kept) (thinned-append row (a ∷ []) kept [] thin (inl (none, refl)))

  pub thinned-reverse : (row kept : List Assigned) → Thinned row kept → Thinned (reverse row) (reverse kept)
  thinned-reverse [] kept is = ap reverse is
  thinned-reverse (a ∷ row) kept (inl gone) =
      subst (λ l. Thinned l (reverse kept)) (sym (reverse-append (a ∷ []) row)) (thinned-last (reverse row) (reverse kept) a gone.0 (thinned-reverse row kept gone.1))
  thinned-reverse (a ∷ row) kept (inr stays) =
      let both = thinned-append (reverse row) (a ∷ []) (reverse stays.0) (a ∷ []) (thinned-reverse row stays.0 stays.2) (thinned-same (a ∷ [])) in
      subst (λ l. Thinned l (reverse kept)) (sym (reverse-append (a ∷ []) row))
      (subst (Thinned (reverse row ++ a ∷ [])) (sym (ap reverse stays.1 ∙ reverse-append (a ∷ []) stays.0)) both)

  -- ---- what is put in

  no_place : (name : List ℕ) → counts name ≡ false → last_place name macros ≡ None
  no_place name none =
      is_none (last_place name macros)
      (neither (is_some (last_place name macros)) (list_any (λ (other : Bor (List ℕ)). bytes_eq other.now name) names) none).0

  puts_nothing : (before : List Assigned) (a : Assigned) → counts a.name ≡ false → put_in macros before a ≡ []
  puts_nothing before a none = put_in-none macros before a (no_place a.name none)

  puts_same : (before left : List Assigned) (a : Assigned) → Agree before left → put_in macros before a ≡ put_in macros left a
  puts_same before left a agree =
      ⊎_elim
      (λ yes.
      ap (λ b. if b then [] else given_by macros a.name a.state) (agree a.name yes))
      (λ no. puts_nothing before a no ∙ sym (puts_nothing left a no))
      (cases_Bool (counts a.name))

  -- an element whose name doesn't count has no name that does
  apart : (a : Assigned) (name : List ℕ) → counts a.name ≡ false → counts name ≡ true → bytes_eq a.name name ≡ false
  apart a name none is =
      ⊎_elim
      (λ yes. absurd (false≢true (sym none ∙ ap counts ((bytes_eq-Decides a.name name).0 yes) ∙ is)))
      (λ no. no)
      (cases_Bool (bytes_eq a.name name))

  agree-gone : (before left : List Assigned) (a : Assigned) → counts a.name ≡ false → Agree before left → Agree (a ∷ before) left
  agree-gone before left a none agree name is = ap (λ b. b || list_any (names_it name) before) (apart a name none is) ∙ agree name is

  agree-both : (before left : List Assigned) (a : Assigned) → Agree before left → Agree (a ∷ before) (a ∷ left)
  agree-both before left a agree name is = ap (λ b. bytes_eq a.name name || b) (agree name is)

  -- ---- a thinned row is filled in, and what fills it in is thinned

  abbrev FillsThinned : List Assigned → List Assigned → List Assigned → Type 0
  FillsThinned left kept filled = (other : List Assigned) × IsFilledIn macros left kept other × Thinned filled other

  abbrev Fills : List Assigned → Type 0
  Fills filled = (row kept before left : List Assigned) → IsFilledIn macros before row filled → Agree before left → Thinned row kept → FillsThinned left kept filled

  filled_more : (a : Assigned) (filled : List Assigned) → Fills filled → (rest kept before left : List Assigned)
      → IsFilledIn macros (a ∷ before) (put_in macros before a ++ rest) filled → Agree before left → Thinned (a ∷ rest) kept → FillsThinned left kept (a ∷ filled)
  filled_more a filled next rest kept before left h agree (inl gone) =
      let there = subst (λ l. IsFilledIn macros (a ∷ before) (l ++ rest) filled) (puts_nothing before a gone.0) h in
      let more = next rest kept (a ∷ before) left there (agree-gone before left a gone.0 agree) gone.1 in
      (more.0, more.1, inl (gone.0, more.2))
  filled_more a filled next rest kept before left h agree (inr stays) =
      let thin = thinned-append (put_in macros before a) rest (put_in macros before a) stays.0 (thinned-same (put_in macros before a)) stays.2 in
      let more = next (put_in macros before a ++ rest) (put_in macros before a ++ stays.0) (a ∷ before) (a ∷ left) h (agree-both before left a agree) thin in
      let there = subst (λ l. IsFilledIn macros (a ∷ left) (l ++ stays.0) more.0) (puts_same before left a agree) more.1 in
      (a ∷ more.0, (stays.0, stays.1, there), inr (more.0, refl, more.2))

  pub filled-thinned : (filled : List Assigned) → Fills filled
  filled-thinned [] row kept before left h agree thin = ([], subst (λ l. Thinned l kept) h thin, refl)
  filled-thinned (a ∷ filled) row kept before left h agree thin =
      filled_more a filled (filled-thinned filled) h.0 kept before left h.2 agree (subst (λ l. Thinned l kept) h.1 thin)

  -- ---- states

  pub state-thinned : (filled kept : List Assigned) (name : List ℕ) → counts name ≡ true → Thinned filled kept → state_in kept name ≡ state_in filled name
  state-thinned [] kept name is thin = ap (λ l. state_in l name) thin
  state-thinned (a ∷ filled) kept name is (inl gone) =
      state-thinned filled kept name is gone.1 ∙ sym (state_in-at (a ∷ filled) 0 a name false refl (apart a name gone.0 is))
  state-thinned (a ∷ filled) kept name is (inr stays) =
      let b = bytes_eq a.name name in
      ap (λ l. state_in l name) stays.1
      ∙ state_in-at (a ∷ stays.0) 0 a name b refl refl
      ∙ ap (λ s. if b then a.state else s) (state-thinned filled stays.0 name is stays.2)
      ∙ sym (state_in-at (a ∷ filled) 0 a name b refl refl)
