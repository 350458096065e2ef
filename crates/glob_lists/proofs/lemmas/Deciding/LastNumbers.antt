-- The last number of which a fact holds, looked for from an end down.
use Rattle.std.proofs.Common.{◌≡◌, ⊎_elim, ℕ, ◌+◌, ◌<◌, ◌≤◌, subst, arith}
use Rattle.std.proofs.lemmas.Bool.{cases_eq, cases_lt}

module _ (P : ℕ → Type 0) where
  -- it holds of no number from this one on
  abbrev pub NoneFrom : ℕ → Type 0
  NoneFrom k = (m : ℕ) → k ≤ m → ¬ P m

  pub NoneFrom-all : (k : ℕ) → k ≤ 0 → NoneFrom k → (m : ℕ) → ¬ P m
  NoneFrom-all k all none m h = none m (omega arith) h

  pub NoneFrom-less : (k j : ℕ) → k ≡ j + 1 → NoneFrom k → ¬ P j → NoneFrom j
  NoneFrom-less k j next later here m past h =
      ⊎_elim (λ (same : m ≡ j). here (subst P same h)) (λ (apart : m ≡ j → ⊥). later m (omega arith) h) (cases_eq m j)

  -- no number of which it holds is greater than the one before these
  pub NoneFrom-last : (k last : ℕ) → k ≡ last + 1 → NoneFrom k → (m : ℕ) → P m → m ≤ last
  NoneFrom-last k last next later m h = ⊎_elim (λ (above : last < m). absurd (later m (omega arith) h)) (λ (up_to : m ≤ last). up_to) (cases_lt last m)
