-- All pairs that answer, as they are found from the last one to the first.
use Rattle.std.proofs.Common.{◌≡◌, ◌⊎◌, inl, inr, ⊎_elim, ℕ, ◌+◌, ◌-◌, ◌<◌, ◌≤◌, List, [], ◌∷◌, ◌++◌, length, reverse, Some, refl, sym, ap, ◌∙◌, subst, arith}
use Rattle.std.specs.Prelude.{slice_get}
use Rattle.std.proofs.lemmas.Bool.{cases_eq, cases_lt}
use Rattle.std.proofs.lemmas.List.{length-reverse}
use Rattle.std.proofs.lemmas.Option.{slice_get_within}
use Rattle.glob_lists.specs.declared.rules.Rules.{Rules}
use Rattle.gix_glob.specs.EntryLists.{EntryList}
use Rattle.glob_lists.specs.Deciding.{AnswersAt, PairAnswers}
use Rattle.glob_lists.specs.Matches.{AreMatches, ComesBefore}
use Rattle.glob_lists.specs.Paths.{Path}
use Rattle.glob_lists.specs.Private.Lists.Answering.{IsNextMatch, NoneAnswers}
use Rattle.glob_lists.specs.Private.Stack.Finding.{AreFoundFrom, IsFrom}
use Rattle.glob_lists.proofs.lemmas.Deciding.Answering.{PairAnswers-only, PairAnswers-yes}
use Rattle.glob_lists.proofs.lemmas.Elements.{slice_get-push_cases, slice_get-push_new, slice_get-push_old, slice_get-reverse, slice_get-reverse_back}

module _ {V : Type 0} (lists : List (EntryList V)) (path : Path) (rules : Rules) where
  abbrev Answer : ℕ → ℕ → Type 0
  Answer i m = PairAnswers lists path.bytes path.is_dir rules i m

  -- no entry of a list from one place up to another answers
  abbrev NoneBetween : ℕ → ℕ → ℕ → Type 0
  NoneBetween j from to = (m : ℕ) → from ≤ m → m < to → ¬ Answer j m

  abbrev Found : ℕ → ℕ → List (ℕ × ℕ) → Type 0
  Found j n found = AreFoundFrom lists path rules j n found

  -- from an earlier pair on the same is found, where none between answers
  pub AreFoundFrom-skip : (j n i m : ℕ) (found : List (ℕ × ℕ)) → IsFrom j n i m → ((k e : ℕ) → IsFrom j n k e → ComesBefore k e i m → ¬ Answer k e) → Found i m found → Found j n found
  AreFoundFrom-skip j n i m found low none h = record {
    each = h.each;
    from = λ x pair got. later j n i m pair.0 pair.1 low (h.from x pair got);
    falling = h.falling;
    all = λ k e answers from. elim (order k e i m) [
      | inl before ↦ absurd (none k e from before answers)
      | inr past ↦ h.all k e answers past
    ];
  } where
    later : (j n i m k e : ℕ) → IsFrom j n i m → IsFrom i m k e → IsFrom j n k e
    later j n i m k e (inl one) (inl two) = inl (omega arith)
    later j n i m k e (inl one) (inr two) = inl (omega (arith, two.0))
    later j n i m k e (inr one) (inl two) = inl (omega (arith, one.0))
    later j n i m k e (inr one) (inr two) = inr (one.0 ∙ two.0, omega (arith, one.1, two.1))

    order : (k e i m : ℕ) → ComesBefore k e i m ⊎ IsFrom i m k e
    order k e i m = elim (cases_lt k i) [
      | inl less ↦ inl (inl less)
      | inr high ↦ ⊎_elim
          (λ (same : i ≡ k). elim (cases_lt e m) [
            | inl below ↦ inl (inr (sym same, below))
            | inr past ↦ inr (inr (same, past))
          ])
          (λ (apart : i ≡ k → ⊥). inr (inl (omega arith)))
          (cases_eq i k)
    ]

  -- one pair more, before all that were found
  pub AreFoundFrom-here : (j n k : ℕ) (found : List (ℕ × ℕ)) → n < k → Answer j n → NoneBetween j (n + 1) k → Found j k found → Found j n (found ++ (j, n) ∷ [])
  AreFoundFrom-here j n k found below answers none h =
      let pair : ℕ × ℕ = (j, n) in record {
        each = λ x p got. elim (slice_get-push_cases found pair x p got) [
          | inl old ↦ h.each x p old
          | inr new ↦ subst (λ (q : ℕ × ℕ). Answer q.0 q.1) (sym new.1) answers
        ];
        from = λ x p got. elim (slice_get-push_cases found pair x p got) [
          | inl old ↦ ⊎_elim
              (λ (later : j < p.0). inl later)
              (λ (same : (j ≡ p.0) × (k ≤ p.1)). inr (same.0, omega (arith, same.1)))
              (h.from x p old)
          | inr new ↦ subst (λ (q : ℕ × ℕ). IsFrom j n q.0 q.1) (sym new.1) (inr (refl, omega arith))
        ];
        falling = λ x y a b less got_a got_b. elim (slice_get-push_cases found pair y b got_b) [
          | inl old_b ↦ elim (slice_get-push_cases found pair x a got_a) [
            | inl old_a ↦ h.falling x y a b less old_a old_b
            | inr new_a ↦ (let inside = slice_get_within found y b old_b in absurd (omega (arith, new_a.0)))
          ]
          | inr new_b ↦ elim (slice_get-push_cases found pair x a got_a) [
            | inl old_a ↦ subst (λ (q : ℕ × ℕ). ComesBefore q.0 q.1 a.0 a.1) (sym new_b.1) (⊎_elim
                (λ (later : j < a.0). inl later)
                (λ (same : (j ≡ a.0) × (k ≤ a.1)). inr (same.0, omega (arith, same.1)))
                (h.from x a old_a))
            | inr new_a ↦ absurd (omega (arith, new_a.0, new_b.0))
          ]
        ];
        all = λ i m other from. ⊎_elim
            (λ (later : j < i). old (h.all i m other (inl later)))
            (λ (same : (j ≡ i) × (n ≤ m)). ⊎_elim
            (λ (here : m ≡ n).
            let is : pair ≡ (i, m) = ap (λ (a : ℕ). (a, n)) same.0 ∙ ap (λ (b : ℕ). (i, b)) (sym here) in
            (length found, slice_get-push_new found pair ∙ ap Some is))
            (λ (apart : m ≡ n → ⊥). elim (cases_lt m k) [
              | inl between ↦ absurd (none m (omega (arith, same.1)) between (subst (λ (a : ℕ). Answer a m) (sym same.0) other))
              | inr past ↦ old (h.all i m other (inr (same.0, past)))
            ])
            (cases_eq m n))
            from;
      } where
        old : {i m : ℕ} → (x : ℕ) × (slice_get found x ≡ Some (i, m)) → (x : ℕ) × (slice_get (found ++ (j, n) ∷ []) x ≡ Some (i, m))
        old {i} {m} x = (x.0, slice_get-push_old found (j, n) x.0 (i, m) x.1)

  pub AreFoundFrom-all : (found : List (ℕ × ℕ)) → Found 0 0 found → AreMatches lists path.bytes path.is_dir rules (reverse found)
  AreFoundFrom-all found h = record {
    each = λ x pair got. h.each (length found - 1 - x) pair (slice_get-reverse found x pair got);
    rising = λ x y a b less got_a got_b.
        let inside = slice_get_within (reverse found) y b got_b in
        let long = length-reverse found in
        h.falling (length found - 1 - y) (length found - 1 - x) b a (omega arith) (slice_get-reverse found y b got_b) (slice_get-reverse found x a got_a);
    all = λ i m answers.
        let x = h.all i m answers (elim (cases_lt 0 i) [ inl later ↦ inl later | inr first ↦ inr (omega arith, omega arith) ]) in
        (length found - 1 - x.0, slice_get-reverse_back found x.0 (i, m) x.1);
  }

  -- ---- one list, from its last entry to the first

  module _ (j : ℕ) (list : EntryList V) (there : slice_get lists j ≡ Some list) where
    -- the pairs of the list
    no_pair : (m : ℕ) → ¬ AnswersAt list path.bytes path.is_dir rules m → ¬ Answer j m
    no_pair m not answers = not (PairAnswers-only lists path.bytes path.is_dir rules j m list there answers)

    -- past its last entry as much is found as from the next list on
    pub AreFoundFrom-list : (next n : ℕ) (found : List (ℕ × ℕ)) → next ≡ j + 1 → length list.entries ≤ n → Found next 0 found → Found j n found
    AreFoundFrom-list next n found is past h = AreFoundFrom-skip j n next 0 found (inl (omega arith))
        (λ k e from before answers. ⊎_elim
        (λ (less : k < next). ⊎_elim
        (λ (later : j < k). absurd (omega arith))
        (λ (same : (j ≡ k) × (n ≤ e)).
        let at = PairAnswers-only lists path.bytes path.is_dir rules j e list there (subst (λ (a : ℕ). Answer a e) (sym same.0) answers) in
        let inside = slice_get_within list.entries e at.entry at.there in
        absurd (omega (arith, same.1)))
        from)
        (λ (none : (k ≡ next) × (e < 0)). absurd (omega (arith, none.1)))
        before)
        h

    -- its next entry that answers
    pub AreFoundFrom-match : (n k m : ℕ) (found : List (ℕ × ℕ)) → IsNextMatch list path rules n k m → Found j k found → Found j n (found ++ (j, m) ∷ [])
    AreFoundFrom-match n k m found next h =
        let here : n ≡ m = sym next.here in
        let below = next.below in
        subst (λ (a : ℕ). Found j a (found ++ (j, m) ∷ [])) (sym here)
        (AreFoundFrom-here j m k found (omega arith) (PairAnswers-yes lists path.bytes path.is_dir rules j m list there next.answers)
        (λ e low high. no_pair e (next.between e (omega arith) high)) h)

    -- none is left
    pub AreFoundFrom-end : (k : ℕ) (found : List (ℕ × ℕ)) → NoneAnswers list path rules 0 k → Found j k found → Found j 0 found
    AreFoundFrom-end k found none h = AreFoundFrom-skip j 0 j k found (inr (refl, omega arith))
        (λ i e from before answers. ⊎_elim
        (λ (less : i < j). ⊎_elim
        (λ (later : j < i). absurd (omega arith))
        (λ (same : (j ≡ i) × (0 ≤ e)). absurd (omega (arith, same.0)))
        from)
        (λ (same : (i ≡ j) × (e < k)). no_pair e (none e (omega arith) same.1) (subst (λ (a : ℕ). Answer a e) same.0 answers))
        before)
        h
