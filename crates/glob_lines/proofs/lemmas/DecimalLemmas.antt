-- The decimal digits of numbers, by pairs.
use Rattle.std.proofs.Common.{◌≡◌, inl, inr, ℕ, zero, suc, ◌+◌, ◌-◌, ◌*◌, ◌/◌, ◌%◌, ◌<◌, ◌≤◌, Bool, true, ◌&&◌, T, eqb, [], ◌∷◌, ◌++◌, get_or, refl, arith, eq-zero-or-pos, eqb→eq, append_assoc}
use Rattle.std.specs.Prelude.{decimal}
use Rattle.std.proofs.lemmas.Fmt.{decimal_digit, decimal_step}
use lib.Ieee.Fits.{and_l, and_r}
use Rattle.glob_lines.specs.declared.numbers.TheConstants.{PAIRS}

-- ---- the table

-- the first pairs are the digits of their places
abbrev are_pairs : ℕ → Bool
are_pairs zero = true
are_pairs (suc p) = (eqb (get_or PAIRS (p * 2) 0) (48 + p / 10) && eqb (get_or PAIRS (p * 2 + 1) 0) (48 + p % 10)) && are_pairs p

are_pairs_at : (n p : ℕ) → T (are_pairs n) → p < n → (get_or PAIRS (p * 2) 0 ≡ 48 + p / 10) × (get_or PAIRS (p * 2 + 1) 0 ≡ 48 + p % 10)
are_pairs_at zero p t h = absurd (omega arith)
are_pairs_at (suc n) p t h = elim (eq-zero-or-pos (n - p)) [
  | inl z ↦ let e : p ≡ n = omega arith in let a = and_l _ (are_pairs n) t in rw e (eqb→eq _ _ (and_l _ _ a), eqb→eq _ _ (and_r _ _ a))
  | inr g ↦ are_pairs_at n p (and_r _ (are_pairs n) t) (omega arith)
]

pub PAIRS_at : (p : ℕ) → p < 100 → (get_or PAIRS (p * 2) 0 ≡ 48 + p / 10) × (get_or PAIRS (p * 2 + 1) 0 ≡ 48 + p % 10)
PAIRS_at p h = are_pairs_at 100 p tt h

-- ---- numbers of a few digits

decimal_pair : (n : ℕ) → 100 ≤ n → n < 100000 → decimal n ≡ decimal (n / 100) ++ (48 + n % 100 / 10) ∷ (48 + n % 100 % 10) ∷ []
decimal_pair n low high =
    let front : n / 10 / 10 ≡ n / 100 = omega arith in
    let tens : n / 10 % 10 ≡ n % 100 / 10 = omega arith in
    let ones : n % 10 ≡ n % 100 % 10 = omega arith in
    rw (decimal_step n (omega arith) (omega arith), decimal_step (n / 10) (omega arith) (omega arith), append_assoc, front, tens, ← ones)

pub decimal_three : (n : ℕ) → 100 ≤ n → n < 1000 → decimal n ≡ (48 + n / 100) ∷ (48 + n % 100 / 10) ∷ (48 + n % 100 % 10) ∷ []
decimal_three n low high = rw (decimal_pair n low (omega arith), decimal_digit (n / 100) (omega arith)) refl

pub decimal_four : (n : ℕ) → 1000 ≤ n → n < 10000 → decimal n ≡ (48 + n / 100 / 10) ∷ (48 + n / 100 % 10) ∷ (48 + n % 100 / 10) ∷ (48 + n % 100 % 10) ∷ []
decimal_four n low high =
    rw (decimal_pair n (omega arith) (omega arith), decimal_step (n / 100) (omega arith) (omega arith), decimal_digit (n / 100 / 10) (omega arith)) refl

pub decimal_five : (n : ℕ) → 10000 ≤ n → n < 100000
    → decimal n ≡ (48 + n / 10000) ∷ (48 + n / 100 % 100 / 10) ∷ (48 + n / 100 % 100 % 10) ∷ (48 + n % 100 / 10) ∷ (48 + n % 100 % 10) ∷ []
decimal_five n low high =
    let first : n / 100 / 100 ≡ n / 10000 = omega arith in
    rw (decimal_pair n (omega arith) high, decimal_three (n / 100) (omega arith) (omega arith), first) refl
