-- The number that digits write grows with them.
use Rattle.std.proofs.Common.{◌≡◌, ℕ, ◌+◌, ◌*◌, ◌<◌, ◌≤◌, List, [], ◌∷◌, ◌++◌, length, get_or, take, drop, refl, sym, ap, subst, le_refl, arith}
use Rattle.std.proofs.lemmas.List.{take-append-drop}
use Rattle.std.proofs.Math.Nat.{mul-le-mul_left}
use Rattle.std.specs.Char.{digit_value}
use Rattle.std.specs.Str.Parse.{digits_value, digits_value_after}
use Rattle.std.proofs.lemmas.Int.Digits.{digits_value_more}

after_ge : (base n : ℕ) (digits : List ℕ) → 1 ≤ base → n ≤ digits_value_after base n digits
after_ge base n [] low = le_refl n
after_ge base n (d ∷ digits) low =
    let more = after_ge base (n * base + digit_value d) digits low in
    omega (arith, mul-le-mul_left n low, more)

after-append : (base n : ℕ) (front back : List ℕ) → digits_value_after base n (front ++ back) ≡ digits_value_after base (digits_value_after base n front) back
after-append base n [] back = refl
after-append base n (d ∷ front) back = after-append base (n * base + digit_value d) front back

front_le : (base : ℕ) (front back : List ℕ) → 1 ≤ base → digits_value base front ≤ digits_value base (front ++ back)
front_le base front back low = subst (λ (n : ℕ). digits_value base front ≤ n) (sym (after-append base 0 front back)) (after_ge base (digits_value base front) back low)

-- a front of digits, and one digit more, make no larger number than all
pub more_le : (base : ℕ) (digits : List ℕ) (i number digit : ℕ) → 1 ≤ base → i < length digits → number ≡ digits_value base (take i digits) → digit ≡ digit_value (get_or digits i 0)
    → number * base + digit ≤ digits_value base digits
more_le base digits i number digit low within is at =
    let more = digits_value_more base digits i within in
    let front = front_le base (take (i + 1) digits) (drop (i + 1) digits) low in
    let whole : digits_value base (take (i + 1) digits ++ drop (i + 1) digits) ≡ digits_value base digits = ap (λ (l : List ℕ). digits_value base l) (take-append-drop (i + 1) digits) in
    let product : number * base ≡ digits_value base (take i digits) * base = ap (λ (n : ℕ). n * base) is in
    omega (arith, more, front, whole, product, at)
