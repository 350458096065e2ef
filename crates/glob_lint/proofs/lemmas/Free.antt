-- The folders of a base that aren't ignored: they aren't without a line under that base, either.
use Rattle.std.proofs.Common.{◌≡◌, inl, inr, ⊎_elim, ℕ, ◌<◌, ◌≤◌, true, false, List, [], ◌∷◌, ◌++◌, get_or, length, take, Option, None, Some, refl, sym, ap, subst, ◌∙◌, length-append, zero-add, arith}
use Rattle.std.specs.Prelude.{unwrap_or}
use Rattle.std.specs.Option.{option_map_or}
use Rattle.std.proofs.Math.ListN.{get_or-append}
use Rattle.std.proofs.Math.Seq.{take-append-le}
use Rattle.std.proofs.lemmas.Bool.{cases_lt}
use Rattle.gix_glob.specs.Bytes.{HasByte, slash}
use Rattle.gix_glob.specs.EntryLists.{EntryList}
use Rattle.gix_glob.specs.Stripping.{RestOf}
use Rattle.glob_lists.specs.Deciding.{IsLastAnswer, PairAnswers}
use Rattle.glob_lists.specs.declared.rules.Rules.{Rules}
use Rattle.glob_matcher.specs.declared.wildmatch.way.Way.TheVariants.{FoldedPlain}
use Rattle.glob_patterns.specs.declared.pattern.case.Case.{Case}
use Rattle.glob_patterns.specs.declared.pattern.case.Case.TheVariants.{Sensitive, Fold}
use Rattle.glob_patterns.proofs.lemmas.LiteralLemmas.{AreAlike-length}
use Rattle.glob_trees.specs.Trees.{HasNoneIgnored, Ignores, IsAbove}
use Rattle.glob_trees.proofs.lemmas.Folders.{above_is_front, above_slash, slash_below}
use Rattle.glob_lint.specs.Private.Asking.{NoneIgnoredUpTo, base_at}
use Rattle.glob_lint.specs.Without.{is_among, lists_but}
use Rattle.glob_lint.proofs.lemmas.Going.{none_more}
use Rattle.glob_lint.proofs.lemmas.Left.{match_stays, match_stood, sign_stays}
use Rattle.glob_lint.proofs.lemmas.Ranks.{rank, rank_grows}

-- a folder above a path that ends within a front of it is above that front
above_front : (base rest path folder : List ℕ) → path ≡ base ++ rest → IsAbove folder path → length folder < length base → IsAbove folder base
above_front base rest path folder joined above less =
    let below = slash_below folder path above in
    let here : HasByte base (length folder) slash = record {
      inside = less;
      is = sym (get_or-append base rest 0 (length folder) less) ∙ ap (λ (l : List ℕ). get_or l (length folder) 0) (sym joined) ∙ below.is;
    } in
    let front : take (length folder) base ≡ folder =
    sym (take-append-le (length folder) base rest (omega arith)) ∙ ap (take (length folder)) (sym joined) ∙ sym (above_is_front folder path above) in
    subst (λ f. IsAbove f base) front (above_slash base (length folder) here)

module _ {V : Type 0} (lists : List (EntryList V)) (rules : Rules) where
  -- what lies under a base is no shorter than it
  no_shorter : (case : Case) (base : Option (List ℕ)) (path rest : List ℕ) → RestOf case base path rest → length (unwrap_or base []) ≤ length path
  no_shorter case None path rest left = omega arith
  no_shorter Sensitive (Some base) path rest left = omega (arith, ap (λ (l : List ℕ). length l) left.joined, length-append left.front rest, ap (λ (l : List ℕ). length l) left.same)
  no_shorter Fold (Some base) path rest left = omega (arith, ap (λ (l : List ℕ). length l) left.joined, length-append left.front rest, AreAlike-length FoldedPlain left.front base left.same)

  not_above : (pair : ℕ × ℕ) (folder : List ℕ) → length folder < length (base_at lists pair.0) → ¬ PairAnswers lists folder true rules pair.0 pair.1
  not_above pair folder less h =
      let under = h.answers.answers in
      let base : base_at lists pair.0 ≡ unwrap_or h.list.base [] = ap (λ list. option_map_or (λ (l : EntryList V). unwrap_or l.base []) list []) h.there in
      let long : length (unwrap_or h.list.base []) ≤ length folder = no_shorter rules.case h.list.base folder under.rest under.left in
      omega (arith, ap (λ (l : List ℕ). length l) base, less, long)

  module _ (pair : ℕ × ℕ) (folder : List ℕ) (missed : ¬ PairAnswers lists folder true rules pair.0 pair.1) where
    -- each line that matches the folder is left
    all_stay : (by : ℕ × ℕ) → PairAnswers lists folder true rules by.0 by.1 → is_among (pair ∷ []) by.0 by.1 ≡ false
    all_stay by h = none_more [] pair by.0 by.1 refl (λ same. missed (subst (λ (q : ℕ × ℕ). PairAnswers lists folder true rules q.0 q.1) (sym same) h))

    still_ignored : (left : ℕ × ℕ) → Ignores (lists_but (pair ∷ []) 0 lists) rules folder left → (by : ℕ × ℕ) × Ignores lists rules folder by
    still_ignored left ignores =
        let last = ignores.0 in
        let s = match_stood lists (pair ∷ []) folder true rules left last.answers in
        let by : ℕ × ℕ = (left.0, s.0) in
        let gone = is_among (pair ∷ []) left.0 in
        let decides : IsLastAnswer lists folder true rules by = record {
          answers = s.1.was;
          last = λ i m h.
              let other = match_stays lists (pair ∷ []) folder true rules (i, m) h (all_stay (i, m) h) in
              ⊎_elim
              (λ (list : i < left.0). inl list)
              (λ (same : (i ≡ left.0) × (rank (is_among (pair ∷ []) i) 0 m ≤ left.1)).
              let low : rank gone 0 m ≤ left.1 = subst (λ j. rank (is_among (pair ∷ []) j) 0 m ≤ left.1) same.0 same.1 in
              ⊎_elim
              (λ (more : s.0 < m).
              let grows = rank_grows gone 0 s.0 m more (subst (λ n. gone n ≡ false) (sym (zero-add s.0)) s.1.stays) in
              absurd (omega (arith, grows, low, s.1.place)))
              (λ (few : m ≤ s.0). inr (same.0, few))
              (cases_lt s.0 m))
              (last.last i (rank (is_among (pair ∷ []) i) 0 m) other.is);
        } in
        (by, (decides, (sign_stays lists (pair ∷ []) folder true rules by left s.1).1 ignores.1))

  module _ (pair : ℕ × ℕ) (path rest : List ℕ) (joined : path ≡ base_at lists pair.0 ++ rest) (free : HasNoneIgnored lists rules (base_at lists pair.0)) where
    pub known_with : NoneIgnoredUpTo lists rules path (length (base_at lists pair.0))
    known_with folder by above less = free folder by (above_front (base_at lists pair.0) rest path folder joined above less)

    pub known_without : NoneIgnoredUpTo (lists_but (pair ∷ []) 0 lists) rules path (length (base_at lists pair.0))
    known_without folder left above less ignores =
        let still = still_ignored pair folder (not_above pair folder less) left ignores in
        free folder still.0 (above_front (base_at lists pair.0) rest path folder joined above less) still.1
