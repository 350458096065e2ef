-- Numbers in the form of version 4. First: one byte of it, read at the front of the bytes that are left.
use Rattle.std.proofs.Common.{◌≡◌, ◌⊎◌, ℕ, ◌+◌, ◌-◌, ◌*◌, ◌%◌, ◌<◌, ◌≤◌, Bool, true, false, cond, ltb, List, [], ◌∷◌, ◌++◌, length, get_or, take, drop, Result, Ok, Err, refl, ap, subst, arith, inl, inr}
use Rattle.std.proofs.Math.Seq.{take-length}
use Rattle.std.proofs.lemmas.Bool.{lt-ltb, le-ltb, ltb-true, ltb-false}
use Rattle.git_index.specs.declared.fault.IndexFault.{IndexFault}
use Rattle.git_index.specs.declared.fault.IndexFault.TheVariants.{Cut, Path}
use Rattle.git_index.specs.Format.{IsNumber}
use Rattle.git_index.specs.Private.Reading.{shared_number_from}
use Rattle.git_index.proofs.lemmas.Fields.{IsBytes, IsBytes-tail, ok_is}

pub number-none : (limit high : ℕ) (rest : List ℕ) → length rest < 1 → shared_number_from limit high rest ≡ Err Cut
unfolding shared_number_from
number-none limit high [] short = refl
number-none limit high (b ∷ rest) short = absurd (omega arith)

pub number-above : (limit high : ℕ) (rest : List ℕ) → 1 ≤ length rest → limit < high * 128 + get_or rest 0 0 % 128 → shared_number_from limit high rest ≡ Err Path
unfolding shared_number_from
number-above limit high [] some above = absurd (omega arith)
number-above limit high (b ∷ rest) some above = rw (lt-ltb limit (high * 128 + b % 128) above) refl

pub number-last : (limit high : ℕ) (rest : List ℕ) → 1 ≤ length rest → high * 128 + get_or rest 0 0 % 128 ≤ limit → get_or rest 0 0 < 128
    → shared_number_from limit high rest ≡ Ok (high * 128 + get_or rest 0 0 % 128, take (length rest - 1) (drop 1 rest))
unfolding shared_number_from
number-last limit high [] some within last = absurd (omega arith)
number-last limit high (b ∷ rest) some within last =
    let n : length (b ∷ rest) - 1 ≡ length rest = omega arith in
    let whole : take (length (b ∷ rest) - 1) rest ≡ rest = rw n (take-length rest) in
    rw (le-ltb limit (high * 128 + b % 128) within, lt-ltb b 128 last, whole) refl

pub number-full : (limit high : ℕ) (rest : List ℕ) → 1 ≤ length rest → high * 128 + get_or rest 0 0 % 128 ≡ limit → 128 ≤ get_or rest 0 0 → shared_number_from limit high rest ≡ Err Path
unfolding shared_number_from
number-full limit high [] some full goes = absurd (omega arith)
number-full limit high (b ∷ rest) some full goes = rw (le-ltb limit (high * 128 + b % 128) (omega arith), le-ltb b 128 goes, le-ltb (high * 128 + b % 128) limit (omega arith)) refl

pub number-more : (limit high : ℕ) (rest : List ℕ) → 1 ≤ length rest → high * 128 + get_or rest 0 0 % 128 < limit → 128 ≤ get_or rest 0 0
    → shared_number_from limit high rest ≡ shared_number_from limit (high * 128 + get_or rest 0 0 % 128 + 1) (take (length rest - 1) (drop 1 rest))
unfolding shared_number_from
number-more limit high [] some below goes = absurd (omega arith)
number-more limit high (b ∷ rest) some below goes =
    let n : length (b ∷ rest) - 1 ≡ length rest = omega arith in
    let whole : take (length (b ∷ rest) - 1) rest ≡ rest = rw n (take-length rest) in
    rw (le-ltb limit (high * 128 + b % 128) (omega arith), le-ltb b 128 goes, lt-ltb (high * 128 + b % 128) limit below, whole) refl

-- ---- what is read is spelled so, and the other way

pub record TakesNumber (limit high : ℕ) (bytes : List ℕ) (x : ℕ × List ℕ) : Type 0 where
  pub text : List ℕ
  pub joined : bytes ≡ text ++ x.1
  pub counted : IsNumber high text x.0
  pub within : x.0 ≤ limit

ways : (p q s : Bool) (n : ℕ) (rest : List ℕ) (more : Result (ℕ × List ℕ) IndexFault) (x : ℕ × List ℕ) → cond p (Err Path) (cond q (Ok (n, rest)) (cond s more (Err Path))) ≡ Ok x
    → ((p ≡ false) × (q ≡ true) × ((n, rest) ≡ x)) ⊎ ((p ≡ false) × (q ≡ false) × (s ≡ true) × (more ≡ Ok x))
ways true q s n rest more x e = absurd cc
ways false true s n rest more x e = inl (refl, refl, ok_is (n, rest) x e)
ways false false true n rest more x e = inr (refl, refl, refl, e)
ways false false false n rest more x e = absurd cc

longer : (limit high b : ℕ) (rest : List ℕ) (x : ℕ × List ℕ) → b < 256 → 128 ≤ b → (text : List ℕ) → rest ≡ text ++ x.1 → IsNumber (high * 128 + b % 128 + 1) text x.0 → x.0 ≤ limit → TakesNumber limit high (b ∷ rest) x
longer limit high b rest x small goes [] joined counted within = absurd counted
longer limit high b rest x small goes (c ∷ more) joined counted within =
    let low : high * 128 + b % 128 + 1 ≡ high * 128 + (b - 128) + 1 = omega arith in
    record {
      text = b ∷ c ∷ more;
      joined = ap (λ (w : List ℕ). b ∷ w) joined;
      counted = (goes, subst (λ (k : ℕ). IsNumber k (c ∷ more) x.0) low counted);
      within = within;
    }

pub number-takes : (limit high : ℕ) (bytes : List ℕ) (x : ℕ × List ℕ) → IsBytes bytes → shared_number_from limit high bytes ≡ Ok x → TakesNumber limit high bytes x
unfolding shared_number_from
number-takes limit high [] x fits e = absurd cc
number-takes limit high (b ∷ rest) x fits e =
    let n = high * 128 + b % 128 in
    elim (ways (ltb limit n) (ltb b 128) (ltb n limit) n rest (shared_number_from limit (n + 1) rest) x e) [
      | inl last ↦
          let small = ltb-true _ _ last.1 in
          let one : TakesNumber limit high (b ∷ rest) (n, rest) = record { text = b ∷ []; joined = refl; counted = (small, omega arith); within = ltb-false _ _ last.0 } in
          subst (λ (y : ℕ × List ℕ). TakesNumber limit high (b ∷ rest) y) last.2 one
      | inr more ↦
          let t = number-takes limit (n + 1) rest x (IsBytes-tail b rest fits) more.3 in
          longer limit high b rest x (fits 0) (ltb-false _ _ more.1) t.text t.joined t.counted t.within
    ]

number-grows : (high : ℕ) (text : List ℕ) (n : ℕ) → IsNumber high text n → high * 128 ≤ n
number-grows high [] n counted = absurd counted
number-grows high (b ∷ []) n counted = omega arith
number-grows high (b ∷ c ∷ text) n counted = let more = number-grows (high * 128 + (b - 128) + 1) (c ∷ text) n counted.1 in omega arith

pub number-again : (limit high : ℕ) (text rest : List ℕ) (n : ℕ) → IsBytes text → IsNumber high text n → n ≤ limit → shared_number_from limit high (text ++ rest) ≡ Ok (n, rest)
unfolding shared_number_from
number-again limit high [] rest n fits counted within = absurd counted
number-again limit high (b ∷ []) rest n fits counted within =
    let same : high * 128 + b % 128 ≡ n = omega arith in
    rw (same, le-ltb limit n within, lt-ltb b 128 counted.0) refl
number-again limit high (b ∷ c ∷ text) rest n fits counted within =
    let small = fits 0 in
    let low : high * 128 + b % 128 ≡ high * 128 + (b - 128) = omega arith in
    let grows = number-grows (high * 128 + (b - 128) + 1) (c ∷ text) n counted.1 in
    rw (low, le-ltb limit (high * 128 + (b - 128)) (omega arith), le-ltb b 128 counted.0, lt-ltb (high * 128 + (b - 128)) limit (omega arith))
    (number-again limit (high * 128 + (b - 128) + 1) (c ∷ text) rest n (IsBytes-tail b (c ∷ text) fits) counted.1 within)
