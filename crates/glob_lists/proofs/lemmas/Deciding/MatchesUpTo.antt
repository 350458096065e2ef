-- All pairs that answer, as they are found from the first one to the last.
use Rattle.std.proofs.Common.{◌≡◌, inl, inr, ⊎_elim, ℕ, ◌+◌, ◌<◌, ◌≤◌, Bool, List, [], ◌∷◌, ◌++◌, length, Some, refl, sym, ap, ◌∙◌, subst, arith}
use Rattle.std.proofs.lemmas.Bool.{cases_eq}
use Rattle.std.proofs.lemmas.Option.{slice_get_within}
use Rattle.glob_lists.specs.declared.rules.Rules.{Rules}
use Rattle.gix_glob.specs.EntryLists.{EntryList}
use Rattle.glob_lists.specs.Deciding.{PairAnswers}
use Rattle.glob_lists.specs.Matches.{AreMatches, ComesBefore}
use Rattle.glob_lists.specs.Private.Matching.{AreMatchesUpTo}
use Rattle.glob_lists.proofs.lemmas.Elements.{slice_get-push_cases, slice_get-push_new, slice_get-push_old}
use Rattle.glob_lists.proofs.lemmas.Deciding.PlaceOrder.{before_later, before_next, before_next_list}

module _ {V : Type 0} (lists : List (EntryList V)) (path : List ℕ) (is_dir : Bool) (rules : Rules) where
  -- the pair at the next place doesn't answer
  pub matches_skip : (j n : ℕ) (found : List (ℕ × ℕ)) → ¬ PairAnswers lists path is_dir rules j n → AreMatchesUpTo lists path is_dir rules j n found
      → AreMatchesUpTo lists path is_dir rules j (n + 1) found
  matches_skip j n found not h = record {
    each = h.each;
    before = λ x pair got. before_later pair.0 pair.1 j n (n + 1) (omega arith) (h.before x pair got);
    rising = h.rising;
    all = λ i m answers before. ⊎_elim
        (λ (old : ComesBefore i m j n). h.all i m answers old)
        (λ (here : (i ≡ j) × (m ≡ n)). absurd (not (subst (λ (a : ℕ). PairAnswers lists path is_dir rules a n) here.0 (subst (λ (b : ℕ). PairAnswers lists path is_dir rules i b) here.1 answers))))
        (before_next i m j n before);
  }

  -- the pair at the next place answers
  pub matches_more : (j n : ℕ) (found : List (ℕ × ℕ)) → PairAnswers lists path is_dir rules j n → AreMatchesUpTo lists path is_dir rules j n found
      → AreMatchesUpTo lists path is_dir rules j (n + 1) (found ++ (j, n) ∷ [])
  matches_more j n found answers h =
      let pair : ℕ × ℕ = (j, n) in record {
        each = λ x p got. elim (slice_get-push_cases found pair x p got) [
          | inl old ↦ h.each x p old
          | inr new ↦ subst (λ (q : ℕ × ℕ). PairAnswers lists path is_dir rules q.0 q.1) (sym new.1) answers
        ];
        before = λ x p got. elim (slice_get-push_cases found pair x p got) [
          | inl old ↦ before_later p.0 p.1 j n (n + 1) (omega arith) (h.before x p old)
          | inr new ↦ subst (λ (q : ℕ × ℕ). ComesBefore q.0 q.1 j (n + 1)) (sym new.1) (inr (refl, omega arith))
        ];
        rising = λ x y a b less got_a got_b. elim (slice_get-push_cases found pair y b got_b) [
          | inl old_b ↦ elim (slice_get-push_cases found pair x a got_a) [
            | inl old_a ↦ h.rising x y a b less old_a old_b
            | inr new_a ↦ (let inside = slice_get_within found y b old_b in absurd (omega (arith, new_a.0)))
          ]
          | inr new_b ↦ elim (slice_get-push_cases found pair x a got_a) [
            | inl old_a ↦ subst (λ (q : ℕ × ℕ). ComesBefore a.0 a.1 q.0 q.1) (sym new_b.1) (h.before x a old_a)
            | inr new_a ↦ absurd (omega (arith, new_a.0, new_b.0))
          ]
        ];
        all = λ i m other before. ⊎_elim
            (λ (old : ComesBefore i m j n). let x = h.all i m other old in (x.0, slice_get-push_old found pair x.0 (i, m) x.1))
            (λ (here : (i ≡ j) × (m ≡ n)).
            let same : pair ≡ (i, m) = ap (λ (a : ℕ). (a, n)) (sym here.0) ∙ ap (λ (b : ℕ). (i, b)) (sym here.1) in
            (length found, slice_get-push_new found pair ∙ ap Some same))
            (before_next i m j n before);
      }

  -- the next list begins where no place of this one is left that answers
  pub matches_of_list : (j n : ℕ) (found : List (ℕ × ℕ)) → ((m : ℕ) → PairAnswers lists path is_dir rules j m → m < n) → AreMatchesUpTo lists path is_dir rules j n found
      → AreMatchesUpTo lists path is_dir rules (j + 1) 0 found
  matches_of_list j n found most h = record {
    each = h.each;
    before = λ x pair got. before_next_list pair.0 pair.1 j n (h.before x pair got);
    rising = h.rising;
    all = λ i m answers before. ⊎_elim
        (λ (less : i < j + 1). ⊎_elim
        (λ (here : i ≡ j). h.all i m answers (inr (here, most m (subst (λ (a : ℕ). PairAnswers lists path is_dir rules a m) here answers))))
        (λ (other : i ≡ j → ⊥). h.all i m answers (inl (omega arith)))
        (cases_eq i j))
        (λ (none : (i ≡ j + 1) × (m < 0)). absurd (omega (arith, none.1)))
        before;
  }

  -- all lists were gone through
  pub matches_all : (j : ℕ) (found : List (ℕ × ℕ)) → length lists ≤ j → AreMatchesUpTo lists path is_dir rules j 0 found → AreMatches lists path is_dir rules found
  matches_all j found all h = record {
    each = h.each;
    rising = h.rising;
    all = λ i m answers. (let inside = slice_get_within lists i answers.list answers.there in h.all i m answers (inl (omega arith)));
  }
