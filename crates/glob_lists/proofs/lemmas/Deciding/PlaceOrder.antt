-- The order of places: lists first.
use Rattle.std.proofs.Common.{◌≡◌, ◌⊎◌, inl, inr, ⊎_elim, ℕ, ◌+◌, ◌≤◌, arith}
use Rattle.std.proofs.lemmas.Bool.{cases_eq}
use Rattle.glob_lists.specs.Matches.{ComesBefore}

-- before the next place of a list: before this one, or this one
pub before_next : (a b j n : ℕ) → ComesBefore a b j (n + 1) → ComesBefore a b j n ⊎ ((a ≡ j) × (b ≡ n))
before_next a b j n (inl x) = inl (inl x)
before_next a b j n (inr x) = ⊎_elim
    (λ (here : b ≡ n). inr (x.0, here))
    (λ (other : b ≡ n → ⊥). inl (inr (x.0, omega (arith, x.1))))
    (cases_eq b n)

pub before_later : (a b j n k : ℕ) → n ≤ k → ComesBefore a b j n → ComesBefore a b j k
before_later a b j n k near (inl x) = inl x
before_later a b j n k near (inr x) = inr (x.0, omega (arith, x.1))

pub before_next_list : (a b j n : ℕ) → ComesBefore a b j n → ComesBefore a b (j + 1) 0
before_next_list a b j n (inl x) = inl (omega arith)
before_next_list a b j n (inr x) = inl (omega (arith, x.0))
