-- The pairs of places that answer, from a pair on: they are found entry by entry, and list by list.
use Rattle.std.proofs.Common.{◌≡◌, ◌⊎◌, inl, inr, ⊎_elim, ℕ, zero, suc, ◌<◌, ◌≤◌, List, [], ◌∷◌, Some, refl, sym, subst, ap, ◌∙◌, arith}
use Rattle.std.specs.Prelude.{nat_lt, slice_get}
use Rattle.std.proofs.lemmas.Bool.{cases_Bool, ltb-true, ltb-false}
use Rattle.std.proofs.lemmas.Option.{none-some, same_Some}
use Rattle.glob_lists.specs.Matches.{ComesBefore}

-- the place (j, n) doesn't come before the place (i, m)
abbrev pub ComesFrom : ℕ → ℕ → ℕ → ℕ → Type 0
ComesFrom i m j n = (i < j) ⊎ ((i ≡ j) × (m ≤ n))

pub from_start : (j n : ℕ) → ComesFrom 0 0 j n
from_start zero n = inr (refl, omega arith)
from_start (suc j) n = inl (omega arith)

weaker : (i m j n : ℕ) → ComesFrom i (suc m) j n → ComesFrom i m j n
weaker i m j n (inl less) = inl less
weaker i m j n (inr same) = let le = same.1 in inr (same.0, omega (arith, le))

stricter : (i m j n : ℕ) → ComesFrom i m j n → ((j ≡ i) × (n ≡ m)) ⊎ ComesFrom i (suc m) j n
stricter i m j n (inl less) = inr (inl less)
stricter i m j n (inr same) =
    let le = same.1 in
    ⊎_elim
    (λ yes. let less = ltb-true m n yes in inr (inr (same.0, omega (arith, less))))
    (λ no. let high = ltb-false m n no in inl (sym same.0, omega (arith, le, high)))
    (cases_Bool (nat_lt m n))

weaker_list : (i m j n : ℕ) → ComesFrom (suc i) 0 j n → ComesFrom i m j n
weaker_list i m j n (inl less) = inl (omega (arith, less))
weaker_list i m j n (inr same) = let e = same.0 in inl (omega (arith, e))

stricter_list : (i m j n : ℕ) → ComesFrom i m j n → ((j ≡ i) × (m ≤ n)) ⊎ ComesFrom (suc i) 0 j n
stricter_list i m j n (inr same) = inl (sym same.0, same.1)
stricter_list i m j n (inl less) =
    ⊎_elim
    (λ yes. let more = ltb-true (suc i) j yes in inr (inl more))
    (λ no. let high = ltb-false (suc i) j no in inr (inr ((omega (arith, less, high)), (omega arith))))
    (cases_Bool (nat_lt (suc i) j))

after_before : (i m j n : ℕ) → ComesBefore i m j n → ComesFrom i (suc m) j n
after_before i m j n (inl less) = inl less
after_before i m j n (inr same) = let less = same.1 in inr (same.0, omega (arith, less))

before_after : (i m j n : ℕ) → ComesFrom i (suc m) j n → ComesBefore i m j n
before_after i m j n (inl less) = inl less
before_after i m j n (inr same) = let le = same.1 in inr (same.0, omega (arith, le))

not_here : (i m : ℕ) → ComesFrom i (suc m) i m → ⊥
not_here i m (inl less) = omega (arith, less)
not_here i m (inr same) = let le = same.1 in omega (arith, le)

not_before : (i m j n : ℕ) → ComesFrom i (suc m) j n → ComesBefore j n i m → ⊥
not_before i m j n (inl a) (inl b) = omega (arith, a, b)
not_before i m j n (inl a) (inr b) = let e = b.0 in omega (arith, a, e)
not_before i m j n (inr a) (inl b) = let e = a.0 in omega (arith, b, e)
not_before i m j n (inr a) (inr b) = let e = a.1 in let f = b.1 in omega (arith, e, f)

same_pair : (i m : ℕ) (pair : ℕ × ℕ) → pair.0 ≡ i → pair.1 ≡ m → pair ≡ (i, m)
same_pair i m pair e f = ap (λ (n : ℕ). (n, pair.1)) e ∙ ap (λ (n : ℕ). (i, n)) f

module _ (A : ℕ → ℕ → Type 0) where
  -- the pairs that answer, each of them once, in order, from a pair on
  pub record AreFrom (i m : ℕ) (found : List (ℕ × ℕ)) : Type 0 where
    pub each : (x : ℕ) (pair : ℕ × ℕ) → slice_get found x ≡ Some pair → A pair.0 pair.1
    pub rising : (x y : ℕ) (a b : ℕ × ℕ) → x < y → slice_get found x ≡ Some a → slice_get found y ≡ Some b → ComesBefore a.0 a.1 b.0 b.1
    pub later : (x : ℕ) (pair : ℕ × ℕ) → slice_get found x ≡ Some pair → ComesFrom i m pair.0 pair.1
    pub all : (j n : ℕ) → ComesFrom i m j n → A j n → (x : ℕ) × (slice_get found x ≡ Some (j, n))

  answers_as : (i m j n : ℕ) → j ≡ i → n ≡ m → A j n → A i m
  answers_as i m j n e f h = subst (λ k. A i k) f (subst (λ k. A k n) e h)

  -- ---- down: the first pair is here, or nothing answers here

  rest_of : (i m j n : ℕ) (rest : List (ℕ × ℕ)) → ComesFrom i (suc m) j n → (x : ℕ) → slice_get ((i, m) ∷ rest) x ≡ Some (j, n)
      → (y : ℕ) × (slice_get rest y ≡ Some (j, n))
  rest_of i m j n rest from zero at =
      let same = same_Some (i, m) (j, n) at in
      absurd (not_here i m (subst (λ (p : ℕ × ℕ). ComesFrom i (suc m) p.0 p.1) (sym same) from))
  rest_of i m j n rest from (suc x) at = (x, at)

  taken : (i m : ℕ) (rest : List (ℕ × ℕ)) → AreFrom i m ((i, m) ∷ rest) → AreFrom i (suc m) rest
  taken i m rest h = record {
    each = λ x pair at. h.each (suc x) pair at;
    rising = λ x y a b less at its. h.rising (suc x) (suc y) a b (omega (arith, less)) at its;
    later = λ x pair at. after_before i m pair.0 pair.1 (h.rising 0 (suc x) (i, m) pair (omega arith) refl at);
    all = λ j n from its. let at = h.all j n (weaker i m j n from) its in rest_of i m j n rest from at.0 at.1;
  }

  pub taken_at : (i m : ℕ) (found rest : List (ℕ × ℕ)) → found ≡ (i, m) ∷ rest → AreFrom i m found → AreFrom i (suc m) rest
  taken_at i m found rest is h = taken i m rest (subst (AreFrom i m) is h)

  pub first_answers : (i m : ℕ) (found rest : List (ℕ × ℕ)) → found ≡ (i, m) ∷ rest → AreFrom i m found → A i m
  first_answers i m found rest is h = h.each 0 (i, m) (ap (λ l. slice_get l 0) is)

  pub passed : (i m : ℕ) (found : List (ℕ × ℕ)) → (A i m → ⊥) → AreFrom i m found → AreFrom i (suc m) found
  passed i m found none h = record {
    each = h.each;
    rising = h.rising;
    later = λ x pair at. ⊎_elim
        (λ same. absurd (none (answers_as i m pair.0 pair.1 same.0 same.1 (h.each x pair at))))
        (λ from. from)
        (stricter i m pair.0 pair.1 (h.later x pair at));
    all = λ j n from its. h.all j n (weaker i m j n from) its;
  }

  pub ended : (i m : ℕ) (found : List (ℕ × ℕ)) → ((n : ℕ) → m ≤ n → A i n → ⊥) → AreFrom i m found → AreFrom (suc i) 0 found
  ended i m found none h = record {
    each = h.each;
    rising = h.rising;
    later = λ x pair at. ⊎_elim
        (λ same. absurd (none pair.1 same.1 (subst (λ k. A k pair.1) same.0 (h.each x pair at))))
        (λ from. from)
        (stricter_list i m pair.0 pair.1 (h.later x pair at));
    all = λ j n from its. h.all j n (weaker_list i m j n from) its;
  }

  least : (i j n : ℕ) → ComesFrom i 0 j n → i ≤ j
  least i j n (inl less) = omega (arith, less)
  least i j n (inr same) = let e = same.0 in omega (arith, e)

  pub none_left : (i : ℕ) (found : List (ℕ × ℕ)) → ((j n : ℕ) → i ≤ j → A j n → ⊥) → AreFrom i 0 found → found ≡ []
  none_left i [] none h = refl
  none_left i (pair ∷ found) none h = absurd (none pair.0 pair.1 (least i pair.0 pair.1 (h.later 0 pair refl)) (h.each 0 pair refl))

  abbrev IsHere : ℕ → ℕ → List (ℕ × ℕ) → Type 0
  IsHere i m found = ((rest : List (ℕ × ℕ)) × (found ≡ (i, m) ∷ rest)) ⊎ (A i m → ⊥)

  isn't_later : (i m : ℕ) (pair : ℕ × ℕ) (rest : List (ℕ × ℕ)) → AreFrom i m (pair ∷ rest) → ComesFrom i (suc m) pair.0 pair.1
      → (x : ℕ) → slice_get (pair ∷ rest) x ≡ Some (i, m) → ⊥
  isn't_later i m pair rest h from zero at =
      not_here i m (subst (λ (p : ℕ × ℕ). ComesFrom i (suc m) p.0 p.1) (same_Some pair (i, m) at) from)
  isn't_later i m pair rest h from (suc x) at =
      not_before i m pair.0 pair.1 from (h.rising 0 (suc x) pair (i, m) (omega arith) refl at)

  pub is_here : (i m : ℕ) (found : List (ℕ × ℕ)) → AreFrom i m found → IsHere i m found
  is_here i m [] h = inr (λ its. let at = h.all i m (inr (refl, omega arith)) its in none-some (i, m) at.1)
  is_here i m (pair ∷ rest) h =
      ⊎_elim
      (λ same. inl (rest, ap (λ p. p ∷ rest) (same_pair i m pair same.0 same.1)))
      (λ from. inr (λ its. let at = h.all i m (inr (refl, omega arith)) its in isn't_later i m pair rest h from at.0 at.1))
      (stricter i m pair.0 pair.1 (h.later 0 pair refl))

  -- ---- up: the pairs are put together again, from the last to the first

  each_put : (i m : ℕ) (rest : List (ℕ × ℕ)) → A i m → AreFrom i (suc m) rest
      → (x : ℕ) (pair : ℕ × ℕ) → slice_get ((i, m) ∷ rest) x ≡ Some pair → A pair.0 pair.1
  each_put i m rest its h zero pair at = subst (λ (p : ℕ × ℕ). A p.0 p.1) (same_Some (i, m) pair at) its
  each_put i m rest its h (suc x) pair at = h.each x pair at

  rising_put : (i m : ℕ) (rest : List (ℕ × ℕ)) → AreFrom i (suc m) rest → (x y : ℕ) (a b : ℕ × ℕ) → x < y
      → slice_get ((i, m) ∷ rest) x ≡ Some a → slice_get ((i, m) ∷ rest) y ≡ Some b → ComesBefore a.0 a.1 b.0 b.1
  rising_put i m rest h x zero a b less at its = absurd (omega (arith, less))
  rising_put i m rest h zero (suc y) a b less at its =
      subst (λ (p : ℕ × ℕ). ComesBefore p.0 p.1 b.0 b.1) (same_Some (i, m) a at) (before_after i m b.0 b.1 (h.later y b its))
  rising_put i m rest h (suc x) (suc y) a b less at its = h.rising x y a b (omega (arith, less)) at its

  later_put : (i m : ℕ) (rest : List (ℕ × ℕ)) → AreFrom i (suc m) rest
      → (x : ℕ) (pair : ℕ × ℕ) → slice_get ((i, m) ∷ rest) x ≡ Some pair → ComesFrom i m pair.0 pair.1
  later_put i m rest h zero pair at = subst (λ (p : ℕ × ℕ). ComesFrom i m p.0 p.1) (same_Some (i, m) pair at) (inr (refl, omega arith))
  later_put i m rest h (suc x) pair at = weaker i m pair.0 pair.1 (h.later x pair at)

  pub put : (i m : ℕ) (rest : List (ℕ × ℕ)) → A i m → AreFrom i (suc m) rest → AreFrom i m ((i, m) ∷ rest)
  put i m rest its h = record {
    each = each_put i m rest its h;
    rising = rising_put i m rest h;
    later = later_put i m rest h;
    all = λ j n from it. ⊎_elim
        (λ same. (0, ap Some (sym (same_pair i m (j, n) same.0 same.1))))
        (λ more. let at = h.all j n more it in (suc at.0, at.1))
        (stricter i m j n from);
  }

  pub unpassed : (i m : ℕ) (found : List (ℕ × ℕ)) → (A i m → ⊥) → AreFrom i (suc m) found → AreFrom i m found
  unpassed i m found none h = record {
    each = h.each;
    rising = h.rising;
    later = λ x pair at. weaker i m pair.0 pair.1 (h.later x pair at);
    all = λ j n from its. ⊎_elim
        (λ same. absurd (none (answers_as i m j n same.0 same.1 its)))
        (λ more. h.all j n more its)
        (stricter i m j n from);
  }

  pub unended : (i m : ℕ) (found : List (ℕ × ℕ)) → ((n : ℕ) → m ≤ n → A i n → ⊥) → AreFrom (suc i) 0 found → AreFrom i m found
  unended i m found none h = record {
    each = h.each;
    rising = h.rising;
    later = λ x pair at. weaker_list i m pair.0 pair.1 (h.later x pair at);
    all = λ j n from its. ⊎_elim
        (λ same. absurd (none n same.1 (subst (λ k. A k n) same.0 its)))
        (λ more. h.all j n more its)
        (stricter_list i m j n from);
  }

  pub none_yet : (i : ℕ) → ((j n : ℕ) → i ≤ j → A j n → ⊥) → AreFrom i 0 []
  none_yet i none = record {
    each = λ x pair at. absurd (none-some pair at);
    rising = λ x y a b less at its. absurd (none-some a at);
    later = λ x pair at. absurd (none-some pair at);
    all = λ j n from its. absurd (none j n (least i j n from) its);
  }
