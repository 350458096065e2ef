-- Where an entry stands once some of a list are gone.
use Rattle.std.proofs.Common.{◌≡◌, ℕ, zero, suc, ◌+◌, ◌<◌, ◌≤◌, Bool, true, false, List, [], ◌∷◌, Some, refl, sym, ap, subst, arith, add-zero}
use Rattle.std.specs.Prelude.{if◌then◌else◌, slice_get}
use Rattle.gix_glob.specs.Entries.{Entry}
use Rattle.glob_lint.specs.Without.{entries_but}

-- how many of the places from k up to k + m aren't gone
abbrev pub rank : (ℕ → Bool) → ℕ → ℕ → ℕ
rank gone k zero = 0
rank gone k (suc m) = if gone k then rank gone (k + 1) m else suc (rank gone (k + 1) m)

module _ (gone : ℕ → Bool) where
  pub rank_rises : (k m n : ℕ) → m ≤ n → rank gone k m ≤ rank gone k n
  rank_rises k zero n h = omega arith
  rank_rises k (suc m) zero h = absurd (omega arith)
  rank_rises k (suc m) (suc n) h =
      let low = rank gone (k + 1) m in
      let high = rank gone (k + 1) n in
      let rest : low ≤ high = rank_rises (k + 1) m n (omega arith) in
      elim (gone k) as (λ b. (if b then low else suc low) ≤ (if b then high else suc high)) [ true ↦ rest | false ↦ omega arith ]

  -- a place that stays is passed
  pub rank_grows : (k m n : ℕ) → m < n → gone (k + m) ≡ false → rank gone k m < rank gone k n
  rank_grows k m zero h stays = absurd (omega arith)
  rank_grows k zero (suc n) h stays =
      let here : gone k ≡ false = subst (λ x. gone x ≡ false) (add-zero k) stays in
      let high = rank gone (k + 1) n in
      subst (λ b. 0 < (if b then high else suc high)) (sym here) (omega arith)
  rank_grows k (suc m) (suc n) h stays =
      let there : gone ((k + 1) + m) ≡ false = subst (λ x. gone x ≡ false) (omega arith) stays in
      let low = rank gone (k + 1) m in
      let high = rank gone (k + 1) n in
      let rest : low < high = rank_grows (k + 1) m n (omega arith) there in
      elim (gone k) as (λ b. (if b then low else suc low) < (if b then high else suc high)) [ true ↦ rest | false ↦ omega arith ]

module _ {V : Type 0} (gone : ℕ → Bool) where
  -- an entry that stays
  pub entry_stays : (es : List (Entry V)) (k m : ℕ) (e : Entry V) → slice_get es m ≡ Some e → gone (k + m) ≡ false → slice_get (entries_but gone k es) (rank gone k m) ≡ Some e
  entry_stays [] k m e there stays = cc
  entry_stays (x ∷ es) k zero e there stays =
      let here : gone k ≡ false = subst (λ i. gone i ≡ false) (add-zero k) stays in
      let rest = entries_but gone (k + 1) es in
      subst (λ b. slice_get (if b then rest else x ∷ rest) 0 ≡ Some e) (sym here) there
  entry_stays (x ∷ es) k (suc m) e there stays =
      let next : gone ((k + 1) + m) ≡ false = subst (λ i. gone i ≡ false) (omega arith) stays in
      let rest = entries_but gone (k + 1) es in
      let at = rank gone (k + 1) m in
      let found : slice_get rest at ≡ Some e = entry_stays es (k + 1) m e there next in
      elim (gone k) as (λ b. slice_get (if b then rest else x ∷ rest) (if b then at else suc at) ≡ Some e) [ true ↦ found | false ↦ found ]

  -- where an entry of what is left stood
  pub record Stood (es : List (Entry V)) (k n : ℕ) (e : Entry V) : Type 0 where
    pub m : ℕ
    pub there : slice_get es m ≡ Some e
    pub stays : gone (k + m) ≡ false
    pub is : rank gone k m ≡ n

  module _ (x : Entry V) (es : List (Entry V)) (k n : ℕ) (e : Entry V) where
    behind_gone : gone k ≡ true → Stood es (k + 1) n e → Stood (x ∷ es) k n e
    behind_gone here s = record {
      m = suc s.m;
      there = s.there;
      stays = subst (λ i. gone i ≡ false) (omega arith) s.stays;
      is = subst (λ b. (if b then rank gone (k + 1) s.m else suc (rank gone (k + 1) s.m)) ≡ n) (sym here) s.is;
    }

    behind_kept : gone k ≡ false → Stood es (k + 1) n e → Stood (x ∷ es) k (suc n) e
    behind_kept here s = record {
      m = suc s.m;
      there = s.there;
      stays = subst (λ i. gone i ≡ false) (omega arith) s.stays;
      is = subst (λ b. (if b then rank gone (k + 1) s.m else suc (rank gone (k + 1) s.m)) ≡ suc n) (sym here) (ap suc s.is);
    }

    first_kept : gone k ≡ false → Some x ≡ Some e → Stood (x ∷ es) k 0 e
    first_kept here same = record {
      m = 0;
      there = same;
      stays = subst (λ i. gone i ≡ false) (sym (add-zero k)) here;
      is = refl;
    }

  pub entry_stood : (es : List (Entry V)) (k n : ℕ) (e : Entry V) → slice_get (entries_but gone k es) n ≡ Some e → Stood es k n e
  entry_stood [] k n e found = cc
  entry_stood (x ∷ es) k zero e found =
      let rest = entries_but gone (k + 1) es in
      let by = elim (gone k) as (λ b. gone k ≡ b → slice_get (if b then rest else x ∷ rest) 0 ≡ Some e → Stood (x ∷ es) k 0 e) [
        | true ↦ λ here h. behind_gone x es k 0 e here (entry_stood es (k + 1) 0 e h)
        | false ↦ λ here h. first_kept x es k 0 e here h
      ] in by refl found
  entry_stood (x ∷ es) k (suc n) e found =
      let rest = entries_but gone (k + 1) es in
      let by = elim (gone k) as (λ b. gone k ≡ b → slice_get (if b then rest else x ∷ rest) (suc n) ≡ Some e → Stood (x ∷ es) k (suc n) e) [
        | true ↦ λ here h. behind_gone x es k (suc n) e here (entry_stood es (k + 1) (suc n) e h)
        | false ↦ λ here h. behind_kept x es k n e here (entry_stood es (k + 1) n e h)
      ] in by refl found
