-- Flags as bits, and the kinds of modes.
use Rattle.std.proofs.Common.{◌≡◌, ℕ, zero, suc, ◌+◌, ◌*◌, ◌/◌, ◌%◌, ◌^◌, ◌<◌, Bool, true, false, cond, eqb, ltb, ◌&&◌, List, [], ◌++◌, Result, Ok, Err, refl, sym, ap, subst, ◌∙◌, arith, lit<}
use Rattle.std.specs.Int.{w16, to_be_bytes}
use Rattle.std.proofs.lemmas.Bool.{eqb-true, eq-eqb, ltb-true, lt-ltb}
use Rattle.git_index.specs.declared.entry.Kind.{Kind}
use Rattle.git_index.specs.declared.entry.Kind.TheVariants.{File, Executable, Link, Submodule}
use Rattle.git_index.specs.declared.fault.IndexFault.{IndexFault}
use Rattle.git_index.specs.declared.fault.IndexFault.TheVariants.{Flags, Mode, Sparse}
use Rattle.git_index.specs.Format.{bit, mode_of}
use Rattle.git_index.specs.Private.Reading.{is_set, kind_of, more_at, number_at}
use Rattle.git_index.proofs.lemmas.Fields.{IsBytes, bind_ok, number_again, number_takes, ok_is, wide16}

-- ---- kinds

kind_ways : (a b c d e : Bool) (s m : IndexFault) (k : Kind) → cond a (Ok File) (cond b (Ok Executable) (cond c (Ok Link) (cond d (Ok Submodule) (cond e (Err s) (Err m))))) ≡ Ok k → (mode : ℕ)
    → (a ≡ true → mode ≡ 0x81A4) → (b ≡ true → mode ≡ 0x81ED) → (c ≡ true → mode ≡ 0xA000) → (d ≡ true → mode ≡ 0xE000) → mode ≡ mode_of k
kind_ways true b c d e s m k is mode pa pb pc pd = let same : File ≡ k = cc in subst (λ (x : Kind). mode ≡ mode_of x) same (pa refl)
kind_ways false true c d e s m k is mode pa pb pc pd = let same : Executable ≡ k = cc in subst (λ (x : Kind). mode ≡ mode_of x) same (pb refl)
kind_ways false false true d e s m k is mode pa pb pc pd = let same : Link ≡ k = cc in subst (λ (x : Kind). mode ≡ mode_of x) same (pc refl)
kind_ways false false false true e s m k is mode pa pb pc pd = let same : Submodule ≡ k = cc in subst (λ (x : Kind). mode ≡ mode_of x) same (pd refl)
kind_ways false false false false true s m k is mode pa pb pc pd = absurd cc
kind_ways false false false false false s m k is mode pa pb pc pd = absurd cc

pub kind_takes : (mode : ℕ) (k : Kind) → kind_of mode ≡ Ok k → mode ≡ mode_of k
unfolding kind_of
kind_takes mode k e =
    kind_ways (eqb mode 0x81A4) (eqb mode 0x81ED) (eqb mode 0xA000) (eqb mode 0xE000) (eqb mode 0x4000) Sparse (Mode mode) k e mode
    (eqb-true mode 0x81A4) (eqb-true mode 0x81ED) (eqb-true mode 0xA000) (eqb-true mode 0xE000)

pub kind_again : (k : Kind) → kind_of (mode_of k) ≡ Ok k
unfolding kind_of
kind_again File = refl
kind_again Executable = refl
kind_again Link = refl
kind_again Submodule = refl

-- ---- bits

bit_of : (n w r : ℕ) → 2 ^ n ≡ w → r < 2 → bit n (eqb r 1) ≡ r * w
bit_of n w zero e lt = omega arith
bit_of n w (suc zero) e lt = e ∙ omega arith
bit_of n w (suc (suc r)) e lt = absurd (omega arith)

pub bit_is : (n flags : ℕ) → bit n (is_set n flags) ≡ flags / 2 ^ n % 2 * 2 ^ n
bit_is n flags = bit_of n (2 ^ n) (flags / 2 ^ n % 2) refl (omega arith)

pub set_if : (n flags : ℕ) (b : Bool) → flags / 2 ^ n % 2 ≡ cond b 1 0 → is_set n flags ≡ b
set_if n flags true e = eq-eqb _ _ e
set_if n flags false e = ap (λ (r : ℕ). eqb r 1) e

-- the flags are their bits, the stage and the length
pub flags_are : (flags : ℕ) → flags < 2 ^ 16 → flags ≡ bit 15 (is_set 15 flags) + bit 14 (is_set 14 flags) + flags / 2 ^ 12 % 4 * 2 ^ 12 + flags % 2 ^ 12
flags_are flags lt = omega (arith, bit_is 15 flags, bit_is 14 flags)

pub record HasFlags (flags : ℕ) (assumed extended : Bool) (stage told : ℕ) : Type 0 where
  pub assumed_is : is_set 15 flags ≡ assumed
  pub extended_is : is_set 14 flags ≡ extended
  pub stage_is : flags / 2 ^ 12 % 4 ≡ stage
  pub told_is : flags % 2 ^ 12 ≡ told
  pub small : flags < 2 ^ 16

pub flags_again : (assumed extended : Bool) (stage told : ℕ) → stage < 4 → told < 4096 → HasFlags (bit 15 assumed + bit 14 extended + stage * 2 ^ 12 + told) assumed extended stage told
flags_again true true stage told s t = record { assumed_is = set_if 15 (32768 + 16384 + stage * 4096 + told) true (omega arith); extended_is = set_if 14 (32768 + 16384 + stage * 4096 + told) true (omega arith); stage_is = omega arith; told_is = omega arith; small = omega arith }
flags_again true false stage told s t = record { assumed_is = set_if 15 (32768 + 0 + stage * 4096 + told) true (omega arith); extended_is = set_if 14 (32768 + 0 + stage * 4096 + told) false (omega arith); stage_is = omega arith; told_is = omega arith; small = omega arith }
flags_again false true stage told s t = record { assumed_is = set_if 15 (0 + 16384 + stage * 4096 + told) false (omega arith); extended_is = set_if 14 (0 + 16384 + stage * 4096 + told) true (omega arith); stage_is = omega arith; told_is = omega arith; small = omega arith }
flags_again false false stage told s t = record { assumed_is = set_if 15 (0 + 0 + stage * 4096 + told) false (omega arith); extended_is = set_if 14 (0 + 0 + stage * 4096 + told) false (omega arith); stage_is = omega arith; told_is = omega arith; small = omega arith }

-- ---- more flags

abbrev pub more_text : Bool → ℕ → List ℕ
more_text extended n = cond extended (to_be_bytes w16 n) []

pub record TakesMore (extended : Bool) (bytes : List ℕ) (x : ℕ × List ℕ) : Type 0 where
  pub joined : bytes ≡ more_text extended (bit 14 (is_set 14 x.0) + bit 13 (is_set 13 x.0)) ++ x.1
  pub unset : extended ≡ false → (is_set 14 x.0 ≡ false) × (is_set 13 x.0 ≡ false)

both : (a b : Bool) → (a && b) ≡ true → (a ≡ true) × (b ≡ true)
both true b e = (refl, e)
both false b e = absurd cc

passed_test : (b : Bool) (d : IndexFault) (x y : ℕ × List ℕ) → cond b (Ok x) (Err d) ≡ Ok y → (b ≡ true) × (x ≡ y)
passed_test true d x y e = (refl, cc)
passed_test false d x y e = absurd cc

more_are : (n : ℕ) → n % 2 ^ 13 ≡ 0 → n < 2 ^ 15 → n ≡ bit 14 (is_set 14 n) + bit 13 (is_set 13 n)
more_are n low lt = omega (arith, bit_is 14 n, bit_is 13 n)

pub more_takes : (extended : Bool) (bytes : List ℕ) (x : ℕ × List ℕ) → IsBytes bytes → more_at extended bytes ≡ Ok x → TakesMore extended bytes x
unfolding more_at
more_takes false bytes x fits e =
    let one : TakesMore false bytes (0, bytes) = record { joined = refl; unset = λ _. (refl, refl) } in
    subst (λ (y : ℕ × List ℕ). TakesMore false bytes y) (ok_is (0, bytes) x e) one
more_takes true bytes x fits e =
    let a = bind_ok (number_at w16 bytes) (λ n. cond (eqb (n.0 % 2 ^ 13) 0 && ltb n.0 (2 ^ 15)) (Ok n) (Err (Flags n.0))) x e in
    let g = passed_test (eqb (a.0.0 % 2 ^ 13) 0 && ltb a.0.0 (2 ^ 15)) (Flags a.0.0) a.0 x a.2 in
    let tests = both (eqb (a.0.0 % 2 ^ 13) 0) (ltb a.0.0 (2 ^ 15)) g.0 in
    let t = number_takes w16 (2 ^ 16) wide16 bytes a.0.0 a.0.1 fits a.1 in
    let same : a.0.0 ≡ bit 14 (is_set 14 a.0.0) + bit 13 (is_set 13 a.0.0) = more_are a.0.0 (eqb-true _ _ tests.0) (ltb-true _ _ tests.1) in
    let one : TakesMore true bytes a.0 = record { joined = t.0 ∙ ap (λ (n : ℕ). to_be_bytes w16 n ++ a.0.1) same; unset = λ no. absurd cc } in
    subst (λ (y : ℕ × List ℕ). TakesMore true bytes y) g.1 one

-- the flags that are read again
pub record FindsMore (skip intent : Bool) (rest : List ℕ) (read : Result (ℕ × List ℕ) IndexFault) : Type 0 where
  pub number : ℕ
  pub is : read ≡ Ok (number, rest)
  pub skip_is : is_set 14 number ≡ skip
  pub intent_is : is_set 13 number ≡ intent

read_more : (n : ℕ) (rest : List ℕ) → n % 2 ^ 13 ≡ 0 → n < 2 ^ 15 → more_at true (to_be_bytes w16 n ++ rest) ≡ Ok (n, rest)
unfolding more_at
read_more n rest low lt =
    let known : (eqb (n % 2 ^ 13) 0 && ltb n (2 ^ 15)) ≡ true = rw (eq-eqb (n % 2 ^ 13) 0 low, lt-ltb n (2 ^ 15) lt) refl in
    rw (number_again w16 (2 ^ 16) wide16 n rest (omega arith), known) refl

pub record AreBits (skip intent : Bool) : Type 0 where
  pub low : (bit 14 skip + bit 13 intent) % 2 ^ 13 ≡ 0
  pub small : bit 14 skip + bit 13 intent < 2 ^ 15
  pub skip_is : is_set 14 (bit 14 skip + bit 13 intent) ≡ skip
  pub intent_is : is_set 13 (bit 14 skip + bit 13 intent) ≡ intent

are_bits : (skip intent : Bool) → AreBits skip intent
are_bits true true = record { low = refl; small = lit< tt; skip_is = refl; intent_is = refl }
are_bits true false = record { low = refl; small = lit< tt; skip_is = refl; intent_is = refl }
are_bits false true = record { low = refl; small = lit< tt; skip_is = refl; intent_is = refl }
are_bits false false = record { low = refl; small = lit< tt; skip_is = refl; intent_is = refl }

read_none : (rest : List ℕ) → more_at false rest ≡ Ok (0, rest)
unfolding more_at
read_none rest = refl

pub more_again : (extended skip intent : Bool) (rest : List ℕ) → (extended ≡ false → (skip ≡ false) × (intent ≡ false)) → FindsMore skip intent rest (more_at extended (more_text extended (bit 14 skip + bit 13 intent) ++ rest))
more_again true skip intent rest unset =
    let bits = are_bits skip intent in
    record { number = bit 14 skip + bit 13 intent; is = read_more (bit 14 skip + bit 13 intent) rest bits.low bits.small; skip_is = bits.skip_is; intent_is = bits.intent_is }
more_again false skip intent rest unset = record { number = 0; is = read_none rest; skip_is = sym (unset refl).0; intent_is = sym (unset refl).1 }
