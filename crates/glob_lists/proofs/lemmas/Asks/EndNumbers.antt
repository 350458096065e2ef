-- The number of the longest end of a text, which begins with those of the shorter ones.
use Rattle.std.proofs.Common.{◌≡◌, ⊎_elim, ℕ, zero, suc, ◌+◌, ◌-◌, ◌*◌, ◌/◌, ◌%◌, ◌^◌, ◌<◌, ◌≤◌, List, bit_and, length, refl, sym, ap, subst, ◌∙◌, pow-add, arith}
use native.Mathlib.Nat.{div-div-eq-div-mul}
use Rattle.std.specs.Prelude.{slice_index}
use Rattle.std.specs.Char.{to_ascii_lowercase}
use Rattle.std.proofs.lemmas.Bool.{cases_eq}
use Rattle.std.proofs.lemmas.Nat.{and_block, and_le_r}
use Rattle.glob_lists.specs.Private.Asks.Literals.{AreBytes}
use Rattle.glob_lists.specs.Private.Asks.Literals.{end_key, from_end, raw_end, without_bytes}
use Rattle.glob_lists.specs.Private.Asks.Showing.{HasEndKeys}
use Rattle.glob_lists.proofs.lemmas.Asks.RawBytes.{no_capital, small_byte}

-- a number of n bytes is less than this
abbrev pub room : ℕ → ℕ
room zero = 1
room (suc n) = room n * 256

room-le : (n k : ℕ) → n ≤ k → room n ≤ room k
room-le n zero low = subst (λ m. room m ≤ 1) (let is : 0 ≡ n = omega arith in is) (omega arith)
room-le n (suc k) low = ⊎_elim
    (λ (same : n ≡ suc k). subst (λ m. room n ≤ room m) same (omega arith))
    (λ (apart : n ≡ suc k → ⊥). let before = room-le n k (omega arith) in omega arith)
    (cases_eq n (suc k))

small_letter : (text : List ℕ) (j : ℕ) → AreBytes text → to_ascii_lowercase (slice_index text j) < 256
small_letter text j bytes = let short = bytes j in grind arith

-- ---- numbers without their last bytes

without_more : (key n : ℕ) → without_bytes key (suc n) ≡ without_bytes (key / 256) n
without_more key zero = refl
without_more key (suc n) = ap (λ (k : ℕ). k / 256) (without_more key n)

pub without_both : (key n m : ℕ) → without_bytes (without_bytes key n) m ≡ without_bytes key (m + n)
without_both key n zero = ap (without_bytes key) (let is : n ≡ 0 + n = omega arith in is)
without_both key n (suc m) = ap (λ (k : ℕ). k / 256) (without_both key n m) ∙ ap (without_bytes key) (let is : suc (m + n) ≡ suc m + n = omega arith in is)

end_key-short : (text : List ℕ) → AreBytes text → (n : ℕ) → end_key text n < room n
end_key-short text bytes zero = omega arith
end_key-short text bytes (suc n) =
    let before = end_key-short text bytes n in
    let here = small_letter text (length text - (n + 1)) bytes in
    omega arith

one_less : (text : List ℕ) → AreBytes text → (n : ℕ) → n < 8 → end_key text (suc n) / 256 ≡ end_key text n
one_less text bytes n few =
    let short = end_key-short text bytes n in
    let most : room n ≤ room 7 = room-le n 7 (omega arith) in
    let here = small_letter text (length text - (n + 1)) bytes in
    omega arith

last_lower : (text : List ℕ) → AreBytes text → (n : ℕ) → n < 8 → end_key text (suc n) % 256 ≡ to_ascii_lowercase (from_end text n)
last_lower text bytes n few =
    let short = end_key-short text bytes n in
    let most : room n ≤ room 7 = room-le n 7 (omega arith) in
    let here = small_letter text (length text - (n + 1)) bytes in
    omega arith

-- ends of one number have the same bytes, up to case
pub same_lower : (xs ys : List ℕ) → AreBytes xs → AreBytes ys → (n : ℕ) → n ≤ 8 → end_key xs n ≡ end_key ys n
    → (m : ℕ) → m < n → to_ascii_lowercase (from_end xs m) ≡ to_ascii_lowercase (from_end ys m)
same_lower xs ys bytes others zero few same m below = absurd (omega arith)
same_lower xs ys bytes others (suc n) few same m below = ⊎_elim
    (λ (here : m ≡ n).
    subst (λ (k : ℕ). to_ascii_lowercase (from_end xs k) ≡ to_ascii_lowercase (from_end ys k)) (sym here)
    (sym (last_lower xs bytes n (omega arith)) ∙ (ap (λ (key : ℕ). key % 256) same ∙ last_lower ys others n (omega arith))))
    (λ (apart : m ≡ n → ⊥).
    same_lower xs ys bytes others n (omega arith) (sym (one_less xs bytes n (omega arith)) ∙ (ap (λ (key : ℕ). key / 256) same ∙ one_less ys others n (omega arith))) m (omega arith))
    (cases_eq m n)

-- the number of an end begins with that of each shorter one
front_of_end : (text : List ℕ) → AreBytes text → (n k m : ℕ) → m ≡ n + k → m ≤ 8 → without_bytes (end_key text m) k ≡ end_key text n
front_of_end text bytes n zero m is few = ap (end_key text) (let same : m ≡ n = omega arith in same)
front_of_end text bytes n (suc k) m is few =
    without_more (end_key text m) k
    ∙ (ap (λ (key : ℕ). without_bytes key k) (ap (λ (j : ℕ). end_key text j / 256) (let next : m ≡ suc (n + k) = omega arith in next) ∙ one_less text bytes (n + k) (omega arith))
    ∙ front_of_end text bytes n k (n + k) refl (omega arith))

pub HasEndKeys-whole : (text : List ℕ) → AreBytes text → (key : ℕ) → key ≡ end_key text 8 → HasEndKeys text key
HasEndKeys-whole text bytes key is n short inside =
    ap (λ (k : ℕ). without_bytes k (8 - n)) is ∙ front_of_end text bytes n (8 - n) 8 (omega arith) (omega arith)

-- bytes of which none is a capital letter make the number as they are
pub raw_end-small : (text : List ℕ) → AreBytes text → (n : ℕ) → n ≤ 8 → bit_and (raw_end text n) (no_capital n) ≡ no_capital n → raw_end text n ≡ end_key text n
raw_end-small text bytes zero few has = refl
raw_end-small text bytes (suc n) few has =
    let byte : ℕ = from_end text n in
    let fits : byte < 256 = bytes (length text - (n + 1)) in
    let block = and_block 8 (raw_end text n) (no_capital n) byte 32 fits (omega arith) in
    let most = and_le_r byte 32 in
    let before = raw_end-small text bytes n (omega arith) (omega (arith, block, most, has)) in
    let here : to_ascii_lowercase byte ≡ byte = small_byte byte fits (omega (arith, block, most, has)) in
    let short = end_key-short text bytes n in
    let room_left : room n ≤ room 7 = room-le n 7 (omega arith) in
    omega (arith, before, here)

-- none of the bytes is a capital letter then
pub raw_end-plain : (text : List ℕ) → AreBytes text → (n : ℕ) → n ≤ 8 → bit_and (raw_end text n) (no_capital n) ≡ no_capital n
    → (m : ℕ) → m < n → to_ascii_lowercase (from_end text m) ≡ from_end text m
raw_end-plain text bytes zero few has m below = absurd (omega arith)
raw_end-plain text bytes (suc n) few has m below =
    let byte : ℕ = from_end text n in
    let fits : byte < 256 = bytes (length text - (n + 1)) in
    let block = and_block 8 (raw_end text n) (no_capital n) byte 32 fits (omega arith) in
    let most = and_le_r byte 32 in
    ⊎_elim
    (λ (here : m ≡ n). subst (λ (k : ℕ). to_ascii_lowercase (from_end text k) ≡ from_end text k) (sym here) (small_byte byte fits (omega (arith, block, most, has))))
    (λ (apart : m ≡ n → ⊥). raw_end-plain text bytes n (omega arith) (omega (arith, block, most, has)) m (omega arith))
    (cases_eq m n)

-- ---- the number of a text that may be shorter

lower_fits : (b : ℕ) → b < 256 → to_ascii_lowercase b < 256
lower_fits b fits = grind (arith, fits)

-- the number of n bytes from the end on, and of zeros past the front of the text
pub record IsPadded (text : List ℕ) (n key : ℕ) : Type 0 where
  pub short : key < room n
  pub ends : (m : ℕ) → m ≤ n → m ≤ length text → without_bytes key (n - m) ≡ end_key text m

pub IsPadded-none : (text : List ℕ) → IsPadded text 0 0
IsPadded-none text = record {
  short = omega arith;
  ends = λ m none inside. (let first : 0 ≡ m = omega arith in subst (λ (k : ℕ). without_bytes 0 (0 - k) ≡ end_key text k) first refl);
}

pub IsPadded-more : (text : List ℕ) (n key byte longer : ℕ) → n < 8 → byte < 256 → (n < length text → byte ≡ from_end text n)
    → longer ≡ ((key * 256) % (2 ^ 64) + to_ascii_lowercase byte) % (2 ^ 64) → IsPadded text n key → IsPadded text (n + 1) longer
IsPadded-more text n key byte longer few fits is_byte is before =
    let short = before.short in
    let most : room n ≤ room 7 = room-le n 7 (omega arith) in
    let small : to_ascii_lowercase byte < 256 = lower_fits byte fits in
    let plain : longer ≡ key * 256 + to_ascii_lowercase byte = omega arith in
    let next_room : room (n + 1) ≡ room n * 256 = ap room (let next : n + 1 ≡ suc n = omega arith in next) in record {
      short = omega arith;
      ends = λ m low inside. ⊎_elim
          (λ (here : m ≡ n + 1).
          let none : n + 1 - m ≡ 0 = omega arith in
          let old : key ≡ end_key text n = ap (without_bytes key) (let is_none : 0 ≡ n - n = omega arith in is_none) ∙ before.ends n (omega arith) (omega arith) in
          ap (without_bytes longer) none ∙ (is ∙ (ap (λ (k : ℕ). ((k * 256) % (2 ^ 64) + to_ascii_lowercase byte) % (2 ^ 64)) old
          ∙ (ap (λ (b : ℕ). ((end_key text n * 256) % (2 ^ 64) + to_ascii_lowercase b) % (2 ^ 64)) (is_byte (omega arith)) ∙ ap (end_key text) (let next : suc n ≡ m = omega arith in next)))))
          (λ (apart : m ≡ n + 1 → ⊥).
          let more : n + 1 - m ≡ suc (n - m) = omega arith in
          let cut : longer / 256 ≡ key = omega arith in
          ap (without_bytes longer) more ∙ (without_more longer (n - m) ∙ (ap (λ (k : ℕ). without_bytes k (n - m)) cut ∙ before.ends m (omega arith) (omega arith))))
          (cases_eq m (n + 1));
    }

pub IsPadded-whole : (text : List ℕ) (n key : ℕ) → 8 ≤ n → n ≤ 8 → IsPadded text n key → HasEndKeys text key
IsPadded-whole text n key low high padded m short inside =
    let all : n ≡ 8 = omega arith in
    ap (λ (k : ℕ). without_bytes key (k - m)) (sym all) ∙ padded.ends m (omega arith) inside

-- ---- shifts

-- without eight bytes or more nothing is left of a number that has so many
past_all : (key : ℕ) → key < 2 ^ 64 → (n : ℕ) → without_bytes key (n + 8) ≡ 0
past_all key fits zero = omega arith
past_all key fits (suc n) = ap (without_bytes key) (let is : suc n + 8 ≡ suc (n + 8) = omega arith in is) ∙ ap (λ (k : ℕ). k / 256) (past_all key fits n)

pub without_all : (key n : ℕ) → key < 2 ^ 64 → 8 ≤ n → without_bytes key n ≡ 0
without_all key n fits many = ap (without_bytes key) (let is : n ≡ n - 8 + 8 = omega arith in is) ∙ past_all key fits (n - 8)

eight_more : (n : ℕ) → 2 ^ (8 * suc n) ≡ 2 ^ (8 * n) * 256
eight_more n = ap (λ (k : ℕ). 2 ^ k) (let is : 8 * suc n ≡ 8 * n + 8 = omega arith in is) ∙ pow-add 2 (8 * n) 8

pub without_bytes-shift : (key n cut : ℕ) → cut ≡ 8 * n → key / 2 ^ cut ≡ without_bytes key n
without_bytes-shift key n cut is = ap (λ (k : ℕ). key / 2 ^ k) is ∙ shifted key n where
  shifted : (key n : ℕ) → key / 2 ^ (8 * n) ≡ without_bytes key n
  shifted key zero = omega arith
  shifted key (suc n) = ap (λ (k : ℕ). key / k) (eight_more n) ∙ (sym (div-div-eq-div-mul key (2 ^ (8 * n)) 256) ∙ ap (λ (k : ℕ). k / 256) (shifted key n))
