-- The row of a path is one, and a list off the way of the path gives nothing to it.
use Rattle.std.proofs.Common.{◌≡◌, ◌⊎◌, inl, inr, ⊎_elim, ℕ, zero, suc, ◌<◌, Bool, List, [], ◌∷◌, ◌++◌, reverse, Option, None, Some, refl, sym, ap, subst, ◌∙◌, arith}
use Rattle.std.specs.Prelude.{◌↔◌, nat_lt, slice_get}
use Rattle.std.specs.List.{flat_map}
use Rattle.std.specs.Option.{option_and_then, option_map_or}
use Rattle.std.proofs.lemmas.Bool.{cases_Bool, ltb-true, ltb-false}
use Rattle.std.proofs.lemmas.Option.{none-some, same_Some}
use Rattle.glob_lists.specs.declared.rules.Rules.{Rules}
use Rattle.gix_glob.specs.Entries.{Entry}
use Rattle.gix_glob.specs.EntryLists.{EntryList}
use Rattle.gix_glob.specs.Stripping.{NothingLeft, RestOf}
use Rattle.glob_lists.specs.Deciding.{PairAnswers}
use Rattle.glob_lists.specs.Matches.{AreMatches, ComesBefore}
use Rattle.glob_lists.specs.Paths.{Path}
use Rattle.glob_attributes.specs.Laws.Leaving.{emptied}
use Rattle.glob_attributes.specs.Macros.{Definition}
use Rattle.glob_attributes.specs.States.{Assigned, IsAssigned, IsFilledIn, IsRow, Lists, assigned_at}
use Rattle.glob_attributes.proofs.lemmas.StateLemmas.{filled-one}

-- ---- two lists of the same elements

same_elements : {X : Type 0} (xs ys : List X) → ((i : ℕ) → slice_get xs i ≡ slice_get ys i) → xs ≡ ys
same_elements [] [] h = refl
same_elements [] (y ∷ ys) h = absurd (none-some y (h 0))
same_elements (x ∷ xs) [] h = absurd (none-some x (sym (h 0)))
same_elements (x ∷ xs) (y ∷ ys) h = ap (λ z. z ∷ xs) (same_Some x y (h 0)) ∙ ap (λ l. y ∷ l) (same_elements xs ys (λ i. h (suc i)))

-- where a place stands as to another one
pub data Stands (x y : ℕ) : Type 0 where
  before : y < x → Stands x y
  here : y ≡ x → Stands x y
  behind : x < y → Stands x y

stands : (x y : ℕ) → Stands x y
stands x y =
    ⊎_elim
    (λ less. before (ltb-true y x less))
    (λ other. ⊎_elim
    (λ more. behind (ltb-true x y more))
    (λ no. let low = ltb-false y x other in let high = ltb-false x y no in here (omega (arith, low, high)))
    (cases_Bool (nat_lt x y)))
    (cases_Bool (nat_lt y x))

-- a list has no gap
no_gap : {X : Type 0} (xs : List X) (x y : ℕ) (p : X) → slice_get xs y ≡ Some p → x < y → slice_get xs x ≡ None → ⊥
no_gap [] x y p at less none = none-some p at
no_gap (z ∷ xs) zero y p at less none = none-some z (sym none)
no_gap (z ∷ xs) (suc x) zero p at less none = omega (arith, less)
no_gap (z ∷ xs) (suc x) (suc y) p at less none = no_gap xs x y p at (omega (arith, less)) none

not_itself : (i m : ℕ) → ComesBefore i m i m → ⊥
not_itself i m (inl less) = omega (arith, less)
not_itself i m (inr same) = let less = same.1 in omega (arith, less)

not_both : (i m j n : ℕ) → ComesBefore i m j n → ComesBefore j n i m → ⊥
not_both i m j n (inl a) (inl b) = omega (arith, a, b)
not_both i m j n (inl a) (inr b) = let e = b.0 in omega (arith, a, e)
not_both i m j n (inr a) (inl b) = let e = a.0 in omega (arith, b, e)
not_both i m j n (inr a) (inr b) = let e = a.1 in let f = b.1 in omega (arith, e, f)

module _ {V : Type 0} (lists : List (EntryList V)) (path : List ℕ) (is_dir : Bool) (rules : Rules) where
  -- a pair that stands in one of the lists at x, where both agree before x, stands in the other no earlier
  no_earlier : (one two : List (ℕ × ℕ)) → AreMatches lists path is_dir rules one → (x y : ℕ) (p : ℕ × ℕ) → slice_get one x ≡ Some p → slice_get one y ≡ slice_get two y → y < x → slice_get two y ≡ Some p → ⊥
  no_earlier one two found x y p at same less its = not_itself p.0 p.1 (found.rising y x p p less (same ∙ its) at)

module _ {V : Type 0} (lists : List (EntryList V)) (path : List ℕ) (is_dir : Bool) (rules : Rules) (one two : List (ℕ × ℕ)) (a : AreMatches lists path is_dir rules one) (b : AreMatches lists path is_dir rules two) (x : ℕ) (below : (y : ℕ) → y < x → slice_get one y ≡ slice_get two y) where
  crossed : (p q : ℕ × ℕ) → slice_get one x ≡ Some p → slice_get two x ≡ Some q → (y : ℕ) → slice_get two y ≡ Some p → x < y → (z : ℕ) → slice_get one z ≡ Some q → Stands x z → ⊥
  crossed p q at there y its more z its_z (before less) = no_earlier lists path is_dir rules two one b x z q there (sym (below z less)) less its_z
  crossed p q at there y its more z its_z (here same) =
      let e : q ≡ p = same_Some q p (sym its_z ∙ ap (slice_get one) same ∙ at) in
      not_itself p.0 p.1 (b.rising x y p p more (there ∙ ap Some e) its)
  crossed p q at there y its more z its_z (behind less) = not_both p.0 p.1 q.0 q.1 (a.rising x z p q less at its_z) (b.rising x y q p more there its)

  -- the first has p at x, and the second has it later: then the second has q at x
  later : (p : ℕ × ℕ) → slice_get one x ≡ Some p → (y : ℕ) → slice_get two y ≡ Some p → x < y → (t : Option (ℕ × ℕ)) → slice_get two x ≡ t → ⊥
  later p at y its more None none = no_gap two x y p its more none
  later p at y its more (Some q) there =
      let h = b.each x q there in
      let other = a.all q.0 q.1 h in
      crossed p q at there y its more other.0 other.1 (stands x other.0)

  -- so the second has p at x too
  pub has_too : (p : ℕ × ℕ) → slice_get one x ≡ Some p → (y : ℕ) → slice_get two y ≡ Some p → Stands x y → slice_get two x ≡ Some p
  has_too p at y its (before less) = absurd (no_earlier lists path is_dir rules one two a x y p at (below y less) less its)
  has_too p at y its (here same) = ap (slice_get two) (sym same) ∙ its
  has_too p at y its (behind less) = absurd (later p at y its less (slice_get two x) refl)

module _ {V : Type 0} (lists : List (EntryList V)) (path : List ℕ) (is_dir : Bool) (rules : Rules) (one two : List (ℕ × ℕ)) (a : AreMatches lists path is_dir rules one) (b : AreMatches lists path is_dir rules two) where
  at_place : (x : ℕ) → ((y : ℕ) → y < x → slice_get one y ≡ slice_get two y) → (o t : Option (ℕ × ℕ)) → slice_get one x ≡ o → slice_get two x ≡ t → slice_get one x ≡ slice_get two x
  at_place x below (Some p) t is its =
      let h = a.each x p is in
      let other = b.all p.0 p.1 h in
      is ∙ sym (has_too lists path is_dir rules one two a b x below p is other.0 other.1 (stands x other.0))
  at_place x below None (Some q) is its =
      let h = b.each x q its in
      let other = a.all q.0 q.1 h in
      has_too lists path is_dir rules two one b a x (λ y less. sym (below y less)) q its other.0 other.1 (stands x other.0) ∙ sym its
  at_place x below None None is its = is ∙ sym its

  up_to : (n x : ℕ) → x < n → slice_get one x ≡ slice_get two x
  up_to zero x less = absurd (omega (arith, less))
  up_to (suc n) x less = at_place x (λ y lower. up_to n y (omega (arith, less, lower))) (slice_get one x) (slice_get two x) refl refl

  pub matches-one : one ≡ two
  matches-one = same_elements one two (λ x. up_to (suc x) x (omega arith))

-- ---- what is assigned to a path is one

pub assigned-one : (lists : Lists) (macros : List Definition) (path : Path) (rules : Rules) (filled other : List Assigned)
    → IsAssigned lists macros path rules filled → IsAssigned lists macros path rules other → filled ≡ other
assigned-one lists macros path rules filled other h k =
    let pairs = matches-one lists path.bytes path.is_dir rules h.1.0 k.1.0 h.1.1 k.1.1 in
    let rows : h.0 ≡ k.0 = h.1.2 ∙ ap (λ ps. reverse (flat_map (assigned_at lists) ps)) pairs ∙ sym k.1.2 in
    filled-one macros [] h.0 filled other h.2 (subst (λ r. IsFilledIn macros [] r other) (sym rows) k.2)

-- ---- a list off the way

module _ (list : EntryList (List Assigned)) (after : Lists) where
  stays : (front : Lists) (i m : ℕ) (its : EntryList (List Assigned)) (entry : Entry (List Assigned)) → slice_get (front ++ emptied list ∷ after) i ≡ Some its → slice_get its.entries m ≡ Some entry
      → slice_get (front ++ list ∷ after) i ≡ Some its
  stays [] zero m its entry is there =
      let lost : its.entries ≡ [] = ap (λ (l : EntryList (List Assigned)). l.entries) (sym (same_Some (emptied list) its is)) in
      absurd (none-some entry (sym (ap (λ l. slice_get l m) lost) ∙ there))
  stays [] (suc i) m its entry is there = is
  stays (b ∷ front) zero m its entry is there = is
  stays (b ∷ front) (suc i) m its entry is there = stays front i m its entry is there

  stays_or_is : (front : Lists) (i : ℕ) (its : EntryList (List Assigned)) → slice_get (front ++ list ∷ after) i ≡ Some its
      → (list ≡ its) ⊎ (slice_get (front ++ emptied list ∷ after) i ≡ Some its)
  stays_or_is [] zero its is = inl (same_Some list its is)
  stays_or_is [] (suc i) its is = inr is
  stays_or_is (b ∷ front) zero its is = inr is
  stays_or_is (b ∷ front) (suc i) its is = stays_or_is front i its is

module _ (list : EntryList (List Assigned)) (after : Lists) (front : Lists) (base : List ℕ) (path : Path) (rules : Rules) (based : list.base ≡ Some base) (off : NothingLeft rules.case (Some base) path.bytes) where
  abbrev full : Lists
  full = front ++ list ∷ after

  abbrev less : Lists
  less = front ++ emptied list ∷ after

  answers_full : (i m : ℕ) → PairAnswers less path.bytes path.is_dir rules i m → PairAnswers full path.bytes path.is_dir rules i m
  answers_full i m h = record { list = h.list; there = stays list after front i m h.list h.answers.entry h.there h.answers.there; answers = h.answers }

  answers_less : (i m : ℕ) → PairAnswers full path.bytes path.is_dir rules i m → PairAnswers less path.bytes path.is_dir rules i m
  answers_less i m h = ⊎_elim
      (λ (same : list ≡ h.list).
      let its : h.list.base ≡ Some base = ap (λ (l : EntryList (List Assigned)). l.base) (sym same) ∙ based in
      absurd (off h.answers.answers.rest (subst (λ b. RestOf rules.case b path.bytes h.answers.answers.rest) its h.answers.answers.left)))
      (λ (other : slice_get less i ≡ Some h.list). record { list = h.list; there = other; answers = h.answers })
      (stays_or_is list after front i h.list h.there)

  same_assigned : (pairs : List (ℕ × ℕ)) → ((x : ℕ) (pair : ℕ × ℕ) → slice_get pairs x ≡ Some pair → PairAnswers less path.bytes path.is_dir rules pair.0 pair.1)
      → flat_map (assigned_at less) pairs ≡ flat_map (assigned_at full) pairs
  unfolding answers_full
  same_assigned [] each = refl
  same_assigned (pair ∷ pairs) each =
      let h = each 0 pair refl in
      let k = answers_full pair.0 pair.1 h in
      ap (λ o. option_map_or (λ entry. entry.value) (option_and_then (λ l. slice_get l.entries pair.1) o) [] ++ flat_map (assigned_at less) pairs) (h.there ∙ sym k.there)
      ∙ ap (λ l. assigned_at full pair ++ l) (same_assigned pairs (λ x other at. each (suc x) other at))

  pub rows-off_the_way : (row : List Assigned) → IsRow full path rules row ↔ IsRow less path rules row
  rows-off_the_way row = (
    λ h. (
      h.0,
      record { each = λ x p at. answers_less p.0 p.1 (h.1.each x p at); rising = h.1.rising; all = λ i m k. h.1.all i m (answers_full i m k) },
      h.2 ∙ ap reverse (sym (same_assigned h.0 (λ x p at. answers_less p.0 p.1 (h.1.each x p at)))),
    ),
    λ h. (
      h.0,
      record { each = λ x p at. answers_full p.0 p.1 (h.1.each x p at); rising = h.1.rising; all = λ i m k. h.1.all i m (answers_less i m k) },
      h.2 ∙ ap reverse (same_assigned h.0 h.1.each),
    ),
  )
