-- Texts in order: which stand before another, and which begin with it.
use Rattle.std.proofs.Common.{◌≡◌, ◌≢◌, inl, inr, ℕ, ◌-◌, ◌<◌, ◌≤◌, Bool, true, false, leb, List, [], ◌∷◌, ◌++◌, Vec, length, get_or, map, refl, sym, ap, ◌∙◌, arith}
use Rattle.std.specs.Prelude.{IsSorted, not}
use Rattle.std.specs.Cmp.Lexicographic.{slice_cmp}
use Rattle.std.specs.List.{AllWithin, Contains}
use Rattle.std.specs.List.Sorted.{IsPartitionedBy}
use Rattle.std.specs.Ordering.{is_gt, is_lt, nat_cmp, ordering_index, ordering_reverse, ordering_then}
use Rattle.std.specs.declared.cmp.Ordering.{Ordering}
use Rattle.std.specs.declared.cmp.Ordering.TheVariants.{Less, Equal, Greater}
use Rattle.std.specs.Vec.{vec_items}
use Rattle.std.proofs.lemmas.Bool.{cases_lt, false≢true}
use Rattle.std.proofs.lemmas.Cmp.{nat_cmp_total, nat_list_cmp_total, ranked, tied_itself}
use Rattle.std.proofs.lemmas.List.{append-nil, get_or-map, length-map}
use Rattle.std.proofs.lemmas.List.Sorted.{IsPartitionedBy-leb, ranks_by, searchable_from_sorted, sorted_far}
use Rattle.std.proofs.lemmas.Map.Lookups.{exact_bytes}
use Rattle.pathspecs.specs.Private.Texts.{bytes_cmp}

le_index : (order : Ordering) → not (is_gt order) ≡ leb (ordering_index order) 1
le_index Less = refl
le_index Equal = refl
le_index Greater = refl

pub is_false : (b : Bool) → not b ≡ true → b ≡ false
is_false true is = absurd (false≢true is)
is_false false is = refl

pub is_true : (b : Bool) → not b ≡ false → b ≡ true
is_true true is = refl
is_true false is = absurd (false≢true (sym is))

module _ {Z : Type 0} (xs : List (Vec ℕ Z)) (ordered : IsSorted bytes_cmp xs) (text : List ℕ) where
  -- none that doesn't come behind a text stands behind one that does
  pub parted : IsPartitionedBy (λ x. not (is_gt (slice_cmp nat_cmp x.items text))) xs
  parted i j d before inside le =
      let rising = searchable_from_sorted nat_list_cmp_total vec_items xs text ordered in
      le_index (slice_cmp nat_cmp (get_or xs i d).items text) ∙ IsPartitionedBy-leb (λ x. ordering_index (slice_cmp nat_cmp x.items text)) xs 1 rising i j d before inside (sym (le_index (slice_cmp nat_cmp (get_or xs j d).items text)) ∙ le)

-- ---- between a text and what it begins, each begins with it

abbrev cmp : List ℕ → List ℕ → Ordering
cmp = slice_cmp nat_cmp

begins_by : (a b : ℕ) (front rest path : List ℕ) (r : Ordering) → r ≡ nat_cmp b a → is_lt (ordering_then r (cmp path front)) ≡ false → is_gt (ordering_then r (cmp path (front ++ rest))) ≡ false
    → (is_lt (cmp path front) ≡ false → is_gt (cmp path (front ++ rest)) ≡ false → (more : List ℕ) × (path ≡ front ++ more)) → (more : List ℕ) × (b ∷ path ≡ a ∷ (front ++ more))
begins_by a b front rest path Less is low high within = absurd (false≢true (sym low))
begins_by a b front rest path Greater is low high within = absurd (false≢true (sym high))
begins_by a b front rest path Equal is low high within =
    let same : b ≡ a = ranked b a Equal is in
    let more = within low high in
    (more.0, rw same (ap (λ (w : List ℕ). a ∷ w) more.1))

begins_between : (front rest path : List ℕ) → is_lt (cmp path front) ≡ false → is_gt (cmp path (front ++ rest)) ≡ false → (more : List ℕ) × (path ≡ front ++ more)
begins_between [] rest path low high = (path, refl)
begins_between (a ∷ front) rest [] low high = absurd (false≢true (sym low))
begins_between (a ∷ front) rest (b ∷ path) low high = begins_by a b front rest path (nat_cmp b a) refl low high (λ l h. begins_between front rest path l h)

-- what goes on behind a text comes behind it
comes_behind : (front rest : List ℕ) → rest ≢ [] → cmp (front ++ rest) front ≡ Greater
comes_behind [] [] some = absurd (some refl)
comes_behind [] (b ∷ rest) some = refl
comes_behind (a ∷ front) rest some = let same : nat_cmp a a ≡ Equal = tied_itself nat_cmp_total a in rw same (comes_behind front rest some)

alike_by : (r : Ordering) → is_lt r ≡ false → is_gt r ≡ false → r ≡ Equal
alike_by Less lt gt = absurd (false≢true (sym lt))
alike_by Equal lt gt = refl
alike_by Greater lt gt = absurd (false≢true (sym gt))

turned : (r : Ordering) → is_lt r ≡ false → is_gt (ordering_reverse r) ≡ false
turned Less lt = absurd (false≢true (sym lt))
turned Equal lt = refl
turned Greater lt = refl

-- one that isn't before another: the other isn't behind it
not_behind : (x y : List ℕ) → is_lt (cmp x y) ≡ false → is_gt (cmp y x) ≡ false
not_behind x y lt = ap is_gt (nat_list_cmp_total.antisymm y x) ∙ turned (cmp x y) lt

not_lt : (r : Ordering) → is_gt r ≡ true → is_lt r ≡ false
not_lt Less gt = absurd (false≢true gt)
not_lt Equal gt = absurd (false≢true gt)
not_lt Greater gt = refl

-- ---- what stands before the place behind a text, and there

module _ {Z : Type 0} (xs : List (Vec ℕ Z)) where
  abbrev texts : List (List ℕ)
  texts = map vec_items xs

  contains_at : (text : List ℕ) → Contains texts text → (k : ℕ) × (k < length xs) × ((d : Vec ℕ Z) → (get_or xs k d).items ≡ text)
  contains_at text has =
      let low : has.0 < length xs = omega (arith, has.1, length-map xs vec_items) in
      (has.0, low, λ d. sym (get_or-map vec_items xs has.0 d text low) ∙ has.2)

  pub at_contains : (text : List ℕ) (k : ℕ) (x : Vec ℕ Z) → k < length xs → x ≡ get_or xs k x → x.items ≡ text → Contains texts text
  at_contains text k x low is same = (k, omega (arith, low, length-map xs vec_items), get_or-map vec_items xs k x text low ∙ sym (ap vec_items is) ∙ same)

  module _ (ordered : IsSorted bytes_cmp xs) (text : List ℕ) (place : ℕ) (before : AllWithin (λ (x : Vec ℕ Z). is_gt (cmp x.items text) ≡ false) xs 0 place) (behind : AllWithin (λ (x : Vec ℕ Z). is_gt (cmp x.items text) ≡ true) xs place (length xs)) where
    rising : (i j : ℕ) (d : Vec ℕ Z) → i ≤ j → j < length xs → is_lt (cmp (get_or xs j d).items (get_or xs i d).items) ≡ false
    rising = sorted_far (λ (x y : Vec ℕ Z). is_lt (cmp x.items y.items)) (ranks_by nat_list_cmp_total vec_items) xs ordered

    -- a text that is among them stands before the place
    stands_before : (k : ℕ) (d : Vec ℕ Z) → k < length xs → (get_or xs k d).items ≡ text → k < place
    stands_before k d low same = elim (cases_lt k place) [
      | inl less ↦ less
      | inr more ↦ absurd (false≢true (sym (ap is_gt (ap (λ w. cmp w text) same ∙ tied_itself nat_list_cmp_total text)) ∙ behind k d more low))
    ]

    first_of : (k : ℕ) (ys : List (Vec ℕ Z)) → k < length ys → Vec ℕ Z
    first_of k [] low = absurd (omega (arith, low))
    first_of k (y ∷ ys) low = y

    pub none_before : place ≡ 0 → ¬ Contains texts text
    none_before first has =
        let at = contains_at text has in
        let d = first_of at.0 xs at.1 in
        omega (arith, first, stands_before at.0 d at.1 (at.2 d))

    pub is_last_before : place ≤ length xs → (x : Vec ℕ Z) → x ≡ get_or xs (place - 1) x → Contains texts text → x.items ≡ text
    is_last_before within x is has =
        let at = contains_at text has in
        let low : at.0 < place = stands_before at.0 x at.1 (at.2 x) in
        let not_less : is_lt (cmp x.items text) ≡ false = ap (λ (y : Vec ℕ Z). is_lt (cmp y.items text)) is ∙ ap (λ w. is_lt (cmp (get_or xs (place - 1) x).items w)) (sym (at.2 x)) ∙ rising at.0 (place - 1) x (omega (arith, low)) (omega (arith, low, within)) in
        let not_more : is_gt (cmp x.items text) ≡ false = ap (λ (y : Vec ℕ Z). is_gt (cmp y.items text)) is ∙ before (place - 1) x (omega arith) (omega (arith, low)) in
        exact_bytes x.items text (alike_by (cmp x.items text) not_less not_more)

    -- what goes on behind the text stands at the place or behind it
    stands_behind : (k : ℕ) (d : Vec ℕ Z) (rest : List ℕ) → k < length xs → rest ≢ [] → (get_or xs k d).items ≡ text ++ rest → place ≤ k
    stands_behind k d rest low some same = elim (cases_lt k place) [
      | inl less ↦ absurd (false≢true (sym (before k d (omega arith) less) ∙ ap is_gt (ap (λ w. cmp w text) same ∙ comes_behind text rest some)))
      | inr more ↦ more
    ]

    abbrev GoesOnBehind : Type 0
    GoesOnBehind = (rest : List ℕ) × (rest ≢ []) × Contains texts (text ++ rest)

    pub none_behind : length xs ≤ place → ¬ GoesOnBehind
    none_behind all has =
        let at = contains_at (text ++ has.0) has.2 in
        let d = first_of at.0 xs at.1 in
        omega (arith, all, at.1, stands_behind at.0 d has.0 at.1 has.1 (at.2 d))

    pub begins_at : (x : Vec ℕ Z) → x ≡ get_or xs place x → GoesOnBehind → (more : List ℕ) × (x.items ≡ text ++ more)
    begins_at x is has =
        let at = contains_at (text ++ has.0) has.2 in
        let low : place ≤ at.0 = stands_behind at.0 x has.0 at.1 has.1 (at.2 x) in
        let more : is_gt (cmp x.items text) ≡ true = ap (λ (y : Vec ℕ Z). is_gt (cmp y.items text)) is ∙ behind place x (omega arith) (omega (arith, low, at.1)) in
        let less : is_lt (cmp (text ++ has.0) x.items) ≡ false = ap (λ (w : List ℕ). is_lt (cmp w x.items)) (sym (at.2 x)) ∙ ap (λ (y : Vec ℕ Z). is_lt (cmp (get_or xs at.0 x).items y.items)) is ∙ rising place at.0 x low at.1 in
        begins_between text has.0 x.items (not_lt (cmp x.items text) more) (not_behind (text ++ has.0) x.items less)

    pub goes_on_at : (x : Vec ℕ Z) (more : List ℕ) → place < length xs → x ≡ get_or xs place x → x.items ≡ text ++ more → GoesOnBehind
    goes_on_at x more low is same = (
      more,
      (λ none. false≢true (sym (ap is_gt (ap (λ w. cmp w text) (same ∙ ap (λ (w : List ℕ). text ++ w) none ∙ append-nil text) ∙ tied_itself nat_list_cmp_total text)) ∙ ap (λ (y : Vec ℕ Z). is_gt (cmp y.items text)) is ∙ behind place x (omega arith) low)),
      at_contains (text ++ more) place x low is same,
    )
