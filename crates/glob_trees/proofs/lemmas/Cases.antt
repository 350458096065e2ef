-- Two texts are the same, or they aren't.
use Rattle.std.proofs.Common.{◌≡◌, ◌⊎◌, inl, inr, ℕ, Bool, true, false, List, refl}
use Rattle.std.specs.Bool.{Decides}
use Rattle.std.proofs.lemmas.Bool.{false≢true}
use Rattle.std.proofs.lemmas.Slice.Eq.{bytes_eq-Decides}

cases_by : (b : Bool) (P : Type 0) → Decides b P → P ⊎ (P → ⊥)
cases_by true P d = inl (d.0 refl)
cases_by false P d = inr (λ p. false≢true (d.1 p))

pub cases_bytes : (xs ys : List ℕ) → (xs ≡ ys) ⊎ (xs ≡ ys → ⊥)
cases_bytes xs ys = cases_by _ (xs ≡ ys) (bytes_eq-Decides xs ys)
