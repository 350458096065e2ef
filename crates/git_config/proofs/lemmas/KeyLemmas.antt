-- Keys that are cut at a byte 0, and compared piece by piece.
use Rattle.std.proofs.Common.{◌≡◌, ◌<◌, ◌≤◌, ⊎_elim, ℕ, suc, ◌+◌, Bool, true, false, cond, not, eqb, List, [], ◌∷◌, ◌++◌, length, take, drop, refl, sym, ap, ◌∙◌, append_assoc, eq-eqb, arith}
use Rattle.std.specs.Prelude.{◌&&◌, ◌||◌, ◌==◌, nat_eq}
use Rattle.std.specs.List.{list_any, position_or_len}
use Rattle.std.specs.Str.{bytes_eq}
use Rattle.std.proofs.lemmas.Bool.{cases_Bool, eqb-false, eqb-true, false≢true, ne_eqb}
use Rattle.std.proofs.lemmas.List.{length-take-le, take-append-drop}
use Rattle.git_config.specs.Grammar.{before_zero}
use lib.Pointwise.{pointwise}

abbrev pub is_zero : ℕ → Bool
is_zero b = b == 0

cut-zero : (b : ℕ) (bytes : List ℕ) → is_zero b ≡ true → before_zero (b ∷ bytes) ≡ []
cut-zero b bytes e = ap (λ (t : Bool). take (cond (not t) (1 + position_or_len is_zero bytes) 0) (b ∷ bytes)) e

cut-other : (b : ℕ) (bytes : List ℕ) → is_zero b ≡ false → before_zero (b ∷ bytes) ≡ b ∷ before_zero bytes
cut-other b bytes e =
    let next : 1 + position_or_len is_zero bytes ≡ suc (position_or_len is_zero bytes) = omega arith in
    ap (λ (t : Bool). take (cond (not t) (1 + position_or_len is_zero bytes) 0) (b ∷ bytes)) e ∙ ap (λ (n : ℕ). take n (b ∷ bytes)) next

-- a byte 0 in front cuts there; without one, it is behind
pub with_zero : (front back : List ℕ) → list_any is_zero front ≡ true → before_zero (front ++ back) ≡ before_zero front
with_zero [] back h = absurd (false≢true h)
with_zero (b ∷ front) back h =
    ⊎_elim
    (λ (yes : is_zero b ≡ true). cut-zero b (front ++ back) yes ∙ sym (cut-zero b front yes))
    (λ (other : is_zero b ≡ false).
    cut-other b (front ++ back) other ∙ ap (λ (l : List ℕ). b ∷ l) (with_zero front back (sym (ap (λ (t : Bool). t || list_any is_zero front) other) ∙ h)) ∙ sym (cut-other b front other))
    (cases_Bool (is_zero b))

pub without_zero : (front back : List ℕ) → list_any is_zero front ≡ false → before_zero (front ++ back) ≡ front ++ before_zero back
without_zero [] back h = refl
without_zero (b ∷ front) back h =
    ⊎_elim
    (λ (yes : is_zero b ≡ true). absurd (false≢true (sym h ∙ ap (λ (t : Bool). t || list_any is_zero front) yes)))
    (λ (other : is_zero b ≡ false).
    cut-other b (front ++ back) other ∙ ap (λ (l : List ℕ). b ∷ l) (without_zero front back (sym (ap (λ (t : Bool). t || list_any is_zero front) other) ∙ h)))
    (cases_Bool (is_zero b))

and_first : (a b : Bool) → (a && b) ≡ true → a ≡ true
and_first true b h = refl
and_first false b h = absurd (false≢true h)

and_second : (a b : Bool) → (a && b) ≡ true → b ≡ true
and_second true b h = h
and_second false b h = absurd (false≢true h)

and_false : (a : Bool) → (a && false) ≡ false
and_false true = refl
and_false false = refl

eqb-refl : (x : ℕ) → eqb x x ≡ true
eqb-refl x = eq-eqb x x refl

-- a front that the key begins with is taken off both; another one makes another key
pub eq-stripped : (front back key : List ℕ) → pointwise nat_eq (take (length front) key) front ≡ true → bytes_eq (front ++ back) key ≡ bytes_eq back (drop (length front) key)
eq-stripped [] back key h = refl
eq-stripped (x ∷ front) back [] h = absurd (false≢true h)
eq-stripped (x ∷ front) back (k ∷ key) h =
    let first = and_first (nat_eq k x) (pointwise nat_eq (take (length front) key) front) h in
    let same : nat_eq x k ≡ true = ap (λ (y : ℕ). nat_eq x y) (eqb-true k x first) ∙ eqb-refl x in
    ap (λ (t : Bool). t && bytes_eq (front ++ back) key) same ∙ eq-stripped front back key (and_second (nat_eq k x) _ h)

pub ne-stripped : (front back key : List ℕ) → pointwise nat_eq (take (length front) key) front ≡ false → bytes_eq (front ++ back) key ≡ false
ne-stripped [] back key h = absurd (false≢true (sym h))
ne-stripped (x ∷ front) back [] h = refl
ne-stripped (x ∷ front) back (k ∷ key) h =
    ⊎_elim
    (λ (yes : nat_eq k x ≡ true).
    let rest : pointwise nat_eq (take (length front) key) front ≡ false = sym (ap (λ (t : Bool). t && pointwise nat_eq (take (length front) key) front) yes) ∙ h in
    ap (λ (t : Bool). nat_eq x k && t) (ne-stripped front back key rest) ∙ and_false (nat_eq x k))
    (λ (other : nat_eq k x ≡ false). ap (λ (t : Bool). t && bytes_eq (front ++ back) key) (ne_eqb x k (λ (e : x ≡ k). eqb-false k x other (sym e))))
    (cases_Bool (nat_eq k x))

-- behind a front that is longer than the key, each text makes the same of it
one_longer : (front a b key : List ℕ) → length key < length front → bytes_eq (before_zero (front ++ a)) key ≡ bytes_eq (before_zero (front ++ b)) key
one_longer [] a b key h = absurd (omega (arith, h))
one_longer (x ∷ front) a b [] h =
    ⊎_elim
    (λ (yes : is_zero x ≡ true). ap (λ (l : List ℕ). bytes_eq l []) (cut-zero x (front ++ a) yes ∙ sym (cut-zero x (front ++ b) yes)))
    (λ (other : is_zero x ≡ false). ap (λ (l : List ℕ). bytes_eq l []) (cut-other x (front ++ a) other) ∙ sym (ap (λ (l : List ℕ). bytes_eq l []) (cut-other x (front ++ b) other)))
    (cases_Bool (is_zero x))
one_longer (x ∷ front) a b (k ∷ key) h =
    let less : length key < length front = omega (arith, h) in
    ⊎_elim
    (λ (yes : is_zero x ≡ true). ap (λ (l : List ℕ). bytes_eq l (k ∷ key)) (cut-zero x (front ++ a) yes ∙ sym (cut-zero x (front ++ b) yes)))
    (λ (other : is_zero x ≡ false).
    ap (λ (l : List ℕ). bytes_eq l (k ∷ key)) (cut-other x (front ++ a) other)
    ∙ ap (λ (t : Bool). nat_eq x k && t) (one_longer front a b key less)
    ∙ sym (ap (λ (l : List ℕ). bytes_eq l (k ∷ key)) (cut-other x (front ++ b) other)))
    (cases_Bool (is_zero x))

-- of a front that is longer than the key no more counts than one byte more than the key has
pub front_decides : (section name key : List ℕ) → length key < length section → bytes_eq (before_zero (take (length key + 1) section ++ name)) key ≡ bytes_eq (before_zero (section ++ name)) key
front_decides section name key h =
    let n = length key + 1 in let front = take n section in let back = drop n section in
    let within : n ≤ length section = omega (arith, h) in
    let is : length front ≡ n = length-take-le n section within in
    let longer : length key < length front = omega (arith, is) in
    one_longer front name (back ++ name) key longer
    ∙ ap (λ (l : List ℕ). bytes_eq (before_zero l) key) (sym (append_assoc front back name) ∙ ap (λ (l : List ℕ). l ++ name) (take-append-drop n section))
