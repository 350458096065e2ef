-- Texts that end in a zero byte, and zero bytes alone.
use Rattle.std.proofs.Common.{◌≡◌, ◌≢◌, ℕ, zero, suc, ◌+◌, ◌-◌, ◌<◌, true, false, eqb, List, [], ◌∷◌, ◌++◌, length, get_or, take, drop, Ok, Err, refl, ap, subst, ◌∙◌, arith}
use Rattle.std.specs.Prelude.{replicate}
use Rattle.std.specs.List.{AllByRecursion, list_all}
use Rattle.std.proofs.lemmas.Bool.{false≢true}
use Rattle.std.proofs.lemmas.List.{take_rest, drop-drop}
use Rattle.git_index.specs.declared.fault.IndexFault.TheVariants.{Cut}
use Rattle.git_index.specs.Private.Reading.{until_zero}
use Rattle.git_index.proofs.lemmas.Fields.{bind_ok, ok_is}

pub until_zero-none : (bytes : List ℕ) → ((k : ℕ) → k < length bytes → get_or bytes k 0 ≢ 0) → until_zero bytes ≡ Err Cut
unfolding until_zero
until_zero-none [] h = refl
until_zero-none (zero ∷ bytes) h = absurd (h 0 (omega arith) refl)
until_zero-none (suc b ∷ bytes) h = rw (until_zero-none bytes (λ k lt. h (suc k) (omega arith))) refl

until_zero-first : (bytes : List ℕ) (i : ℕ) → i < length bytes → get_or bytes i 0 ≡ 0 → ((k : ℕ) → k < i → get_or bytes k 0 ≢ 0) → until_zero bytes ≡ Ok (take i bytes, drop (suc i) bytes)
unfolding until_zero
until_zero-first [] i lt here before = absurd (omega arith)
until_zero-first (zero ∷ bytes) zero lt here before = refl
until_zero-first (zero ∷ bytes) (suc i) lt here before = absurd (before 0 (omega arith) refl)
until_zero-first (suc b ∷ bytes) zero lt here before = absurd (omega arith)
until_zero-first (suc b ∷ bytes) (suc i) lt here before = rw (until_zero-first bytes i (omega arith) here (λ k lt'. before (suc k) (omega arith))) refl

-- where the bytes are split before the first zero
pub until_zero-split : (bytes : List ℕ) (i : ℕ) (front back : List ℕ) → i < length bytes → get_or bytes i 0 ≡ 0 → ((k : ℕ) → k < i → get_or bytes k 0 ≢ 0) → front ≡ take i bytes → back ≡ drop i bytes
    → until_zero bytes ≡ Ok (front, take (length back - 1) (drop 1 back))
until_zero-split bytes i front back lt here before f b =
    let next : i + 1 ≡ suc i = omega arith in
    let one : drop 1 back ≡ drop (suc i) bytes = rw b (drop-drop 1 i bytes ∙ ap (λ (n : ℕ). drop n bytes) next) in
    let behind : take (length back - 1) (drop 1 back) ≡ drop (suc i) bytes = take_rest back 1 ∙ one in
    until_zero-first bytes i lt here before ∙ rw (f, behind) refl

pub until_zero-takes : (bytes : List ℕ) (x : List ℕ × List ℕ) → until_zero bytes ≡ Ok x → (bytes ≡ x.0 ++ 0 ∷ x.1) × AllByRecursion (λ b. b ≢ 0) x.0
unfolding until_zero
until_zero-takes [] x e = absurd cc
until_zero-takes (zero ∷ bytes) x e = subst (λ (y : List ℕ × List ℕ). (0 ∷ bytes ≡ y.0 ++ 0 ∷ y.1) × AllByRecursion (λ b. b ≢ 0) y.0) (ok_is ([], bytes) x e) (refl, tt)
until_zero-takes (suc b ∷ bytes) x e =
    let a = bind_ok (until_zero bytes) (λ more. Ok (suc b ∷ more.0, more.1)) x e in
    let h = until_zero-takes bytes a.0 a.1 in
    let one : suc b ≢ 0 = λ is. absurd (omega arith) in
    let made : List ℕ × List ℕ = (suc b ∷ a.0.0, a.0.1) in
    subst (λ (y : List ℕ × List ℕ). (suc b ∷ bytes ≡ y.0 ++ 0 ∷ y.1) × AllByRecursion (λ b. b ≢ 0) y.0) (ok_is made x a.2) (ap (λ (w : List ℕ). suc b ∷ w) h.0, (one, h.1))

pub until_zero-again : (text rest : List ℕ) → AllByRecursion (λ b. b ≢ 0) text → until_zero (text ++ 0 ∷ rest) ≡ Ok (text, rest)
unfolding until_zero
until_zero-again [] rest none = refl
until_zero-again (zero ∷ text) rest none = absurd (none.0 refl)
until_zero-again (suc b ∷ text) rest none = rw (until_zero-again text rest none.1) refl

pub zeros_are : (xs : List ℕ) → list_all (λ b. eqb b 0) xs ≡ true → xs ≡ replicate (length xs) 0
zeros_are [] all = refl
zeros_are (zero ∷ xs) all = ap (λ (w : List ℕ). 0 ∷ w) (zeros_are xs all)
zeros_are (suc b ∷ xs) all = let no : eqb (suc b) 0 ≡ false = grind arith in absurd (false≢true (rw no at all))

pub replicate-zeros : (n : ℕ) → list_all (λ b. eqb b 0) (replicate n 0) ≡ true
replicate-zeros zero = refl
replicate-zeros (suc n) = replicate-zeros n
