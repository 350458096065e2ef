-- The last line that matches a path, but for one: it decides once that one is gone.
use Rattle.std.proofs.Common.{◌≡◌, ◌⊎◌, inl, inr, ⊎_elim, ℕ, ◌<◌, ◌≤◌, Bool, true, false, List, [], ◌∷◌, Option, None, Some, refl, sym, subst, ◌∙◌, arith}
use Rattle.std.specs.Prelude.{slice_get}
use Rattle.std.proofs.lemmas.Bool.{cases_lt, false≢true}
use Rattle.std.proofs.lemmas.Option.{same_Some}
use Rattle.glob_lists.specs.declared.rules.Rules.{Rules}
use Rattle.gix_glob.specs.EntryLists.{EntryList}
use Rattle.glob_lists.specs.Deciding.{Decides}
use Rattle.glob_lists.specs.Matches.{AreMatches}
use Rattle.glob_lists.proofs.lemmas.Deciding.DecidesOnce.{decides_once}
use Rattle.glob_trees.specs.Trees.{Ignores, IsPositiveAt}
use Rattle.glob_lint.specs.Ignoring.{Ignoring}
use Rattle.glob_lint.specs.Private.Asking.{IsLastOther}
use Rattle.glob_lint.specs.Without.{is_among, lists_but}
use Rattle.glob_lint.proofs.lemmas.Going.{none_more}
use Rattle.glob_lint.proofs.lemmas.Left.{IsLeft, match_stays, match_stood}
use Rattle.glob_lint.proofs.lemmas.Ranks.{rank, rank_rises}

self_among : (pair : ℕ × ℕ) → is_among (pair ∷ []) pair.0 pair.1 ≡ true
self_among pair = grind arith

module _ {V : Type 0} (lists : List (EntryList V)) (pair : ℕ × ℕ) (path : List ℕ) (is_dir : Bool) (rules : Rules) (found : List (ℕ × ℕ)) (are : AreMatches lists path is_dir rules found) where
  -- a line that is left is another one
  other_one : (by : ℕ × ℕ) → is_among (pair ∷ []) by.0 by.1 ≡ false → ¬ (by ≡ pair)
  other_one by stays same = false≢true (sym stays ∙ subst (λ (q : ℕ × ℕ). is_among (pair ∷ []) q.0 q.1 ≡ true) (sym same) (self_among pair))

  pub none_left : ((x : ℕ) (by : ℕ × ℕ) → slice_get found x ≡ Some by → by ≡ pair) → Decides (lists_but (pair ∷ []) 0 lists) path is_dir rules None
  none_left only i m h =
      let s = match_stood lists (pair ∷ []) path is_dir rules (i, m) h in
      let at = are.all i s.0 s.1.was in
      other_one (i, s.0) s.1.stays (only at.0 (i, s.0) at.1)

  module _ (last : ℕ × ℕ) (is : IsLastOther found pair last) where
    abbrev left : ℕ × ℕ
    left = (last.0, rank (is_among (pair ∷ []) last.0) 0 last.1)

    pub last_is_left : IsLeft lists (pair ∷ []) path is_dir rules last left
    last_is_left = match_stays lists (pair ∷ []) path is_dir rules last (are.each is.place last is.at) (none_more [] pair last.0 last.1 refl (λ same. is.other (sym same)))

    -- a line that matches doesn't come behind it
    not_behind : (by : ℕ × ℕ) (x : ℕ) → slice_get found x ≡ Some by → ¬ (by ≡ pair) → (by.0 < last.0) ⊎ ((by.0 ≡ last.0) × (by.1 ≤ last.1))
    not_behind by x at other = ⊎_elim
        (λ (less : x < is.place). ⊎_elim
        (λ (list : by.0 < last.0). inl list)
        (λ (same : (by.0 ≡ last.0) × (by.1 < last.1)). let below = same.1 in inr (same.0, omega (arith, below)))
        (are.rising x is.place by last less at is.at))
        (λ (from : is.place ≤ x). ⊎_elim
        (λ (more : is.place < x). absurd (other (is.behind x by more at)))
        (λ (up : x ≤ is.place).
        let level : x ≡ is.place = omega arith in
        let same : by ≡ last = same_Some by last (sym at ∙ subst (λ y. slice_get found y ≡ Some last) (sym level) is.at) in
        subst (λ (q : ℕ × ℕ). (q.0 < last.0) ⊎ ((q.0 ≡ last.0) × (q.1 ≤ last.1))) (sym same) (inr (refl, omega arith)))
        (cases_lt is.place x))
        (cases_lt x is.place)

    pub last_decides : Decides (lists_but (pair ∷ []) 0 lists) path is_dir rules (Some left)
    last_decides =
        let l = last_is_left in
        record {
          answers = l.is;
          last = λ i m h.
              let s = match_stood lists (pair ∷ []) path is_dir rules (i, m) h in
              let at = are.all i s.0 s.1.was in
              ⊎_elim
              (λ (list : i < last.0). inl list)
              (λ (same : (i ≡ last.0) × (s.0 ≤ last.1)).
              let rises : rank (is_among (pair ∷ []) i) 0 s.0 ≤ rank (is_among (pair ∷ []) i) 0 last.1 = rank_rises (is_among (pair ∷ []) i) 0 s.0 last.1 same.1 in
              let there : rank (is_among (pair ∷ []) i) 0 s.0 ≤ left.1 = subst (λ j. rank (is_among (pair ∷ []) i) 0 s.0 ≤ rank (is_among (pair ∷ []) j) 0 last.1) same.0 rises in
              inr (same.0, subst (λ n. n ≤ left.1) s.1.place there))
              (not_behind (i, s.0) at.0 at.1 (other_one (i, s.0) s.1.stays));
        }

-- whether a folder is ignored, by what decides about it
module _ {V : Type 0} (lists : List (EntryList V)) (rules : Rules) (folder : List ℕ) where
  pub ignored_by : (other : Option (ℕ × ℕ)) → Decides lists folder true rules other → Ignoring lists other → (by : ℕ × ℕ) × Ignores lists rules folder by
  ignored_by None decides positive = absurd positive
  ignored_by (Some by) decides positive = (by, (decides, positive))

  pub none_ignores : (other : Option (ℕ × ℕ)) → Decides lists folder true rules other → ¬ Ignoring lists other → (by : ℕ × ℕ) → ¬ Ignores lists rules folder by
  none_ignores None decides none by h = let answers = h.0.answers in decides by.0 by.1 answers
  none_ignores (Some last) decides none by h =
      none (subst (IsPositiveAt lists) (same_Some by last (decides_once lists folder true rules (Some by) (Some last) h.0 decides)) h.1)
