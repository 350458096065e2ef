-- The number of bytes of which none is a capital letter: each has the bit that those lack.
use Rattle.std.proofs.Common.{◌≡◌, ℕ, zero, suc, ◌+◌, ◌*◌, ◌<◌, bit_and, cond, nat_lt, refl, arith}
use Rattle.std.specs.Char.{to_ascii_lowercase}
use Rattle.std.proofs.lemmas.Bool.{cond_both}
use Rattle.std.proofs.lemmas.Nat.Bits.{and_pow}

-- the bit of each of n bytes
abbrev pub no_capital : ℕ → ℕ
no_capital zero = 0
no_capital (suc n) = no_capital n * 256 + 32

-- a byte that has the bit is no capital letter
pub small_byte : (b : ℕ) → b < 256 → bit_and b 32 ≡ 32 → to_ascii_lowercase b ≡ b
small_byte b fits has =
    let bit = and_pow b 5 in
    cond_both (nat_lt b 65) b (cond (nat_lt b 91) (b + 32) b) (λ (x : ℕ). x ≡ b) (λ low. refl)
    (λ high. cond_both (nat_lt b 91) (b + 32) b (λ (x : ℕ). x ≡ b) (λ upper. absurd (grind (arith, bit, has, high, upper))) (λ other. refl))
