-- Each pattern has a reading: from each place inside it some token is spelled. It is said so that it needs no decision
-- whether a bracket begins a set: what follows from each reading, where it is an order of numbers, holds.
use Rattle.std.proofs.Common.{◌≡◌, inl, inr, ℕ, zero, suc, ◌+◌, ◌<◌, ◌≤◌, Bool, true, false, List, [], ◌∷◌, length, get_or, Option, refl, sym, ◌∙◌, subst, arith, if◌then◌else◌, ⊎_elim, ap, not}
use Rattle.std.proofs.lemmas.Bool.{cases_lt, cases_Bool}
use Rattle.std.proofs.lemmas.Bool.Decides.{eqb_tells}
use Rattle.glob_matcher.specs.declared.wildmatch.way.Way.{Way}
use Rattle.glob_matcher.specs.declared.wildmatch.items.Item.{Item}
use Rattle.glob_matcher.specs.declared.wildmatch.items.Item.TheVariants as item
use Rattle.glob_matcher.specs.Bytes.{HasByte, IsEscaped, is_path, star, open_bracket, backslash}
use Rattle.glob_matcher.specs.ExactFolding.{is_dead}
use Rattle.glob_matcher.specs.Private.Spelling.{question_mark, close_bracket}
use Rattle.glob_matcher.specs.Sets.{Set, SetAt, ItemAt, ItemsAt, IsUpperEnd, member_of}
use Rattle.glob_matcher.specs.Tokens.{Token, Byte, Any, OneOf, Free, Local, Dirs, Nothing, TokenAt, IsRun, IsBounded, From, Tokens}
use Rattle.glob_matcher.proofs.lemmas.reading.TokenLemmas.{TokenAt-inside, stands_for_itself}

-- a set's text ends in its closing bracket
pub items_close : (p : List ℕ) (first : Bool) (low : Option ℕ) (i : ℕ) (xs : List Item) (j : ℕ) → ItemsAt p first low i xs j
    → HasByte p j close_bracket
items_close p first low i [] j e = subst (λ (n : ℕ). HasByte p n close_bracket) e.2 e.1
items_close p first low i (x ∷ xs) j e = items_close p false (member_of x) e.1 xs j e.3

pub upper_past : (p : List ℕ) (i high j : ℕ) → IsUpperEnd p i high j → i < j
upper_past p i high j (inl e) = omega (arith, e.2)
upper_past p i high j (inr e) = omega (arith, e.1)

-- an item ends past its place
pub item_past : (p : List ℕ) (low : Option ℕ) (i : ℕ) (x : Item) (j : ℕ) → ItemAt p low i x j → i < j
item_past p low i (item.Member b) j (inl e) = omega (arith, e.1)
item_past p low i (item.Member b) j (inr e) = omega (arith, e.1)
item_past p low i (item.Range a b) j e = let past : i + 1 < j = upper_past p (i + 1) b j e.2 in omega arith
item_past p low i (item.Class c) j e = omega (arith, e.1.far, e.3)

pub items_past : (p : List ℕ) (first : Bool) (low : Option ℕ) (i : ℕ) (xs : List Item) (j : ℕ) → ItemsAt p first low i xs j → i ≤ j
items_past p first low i [] j e = omega (arith, e.2)
items_past p first low i (x ∷ xs) j e =
    let here : i < e.1 = item_past p low i x e.1 e.2 in
    let later : e.1 ≤ j = items_past p false (member_of x) e.1 xs j e.3 in omega arith

start_past : (i : ℕ) (negated : Bool) → i < (if negated then i + 2 else i + 1)
start_past i true = omega arith
start_past i false = omega arith

pub set_past : (p : List ℕ) (i : ℕ) (s : Set) (j : ℕ) → SetAt p i s j → i < j
set_past p i s j e =
    let start : i < (if s.negated then i + 2 else i + 1) = start_past i s.negated in
    let close : (if s.negated then i + 2 else i + 1) ≤ e.close = items_past p _ _ _ s.items e.close e.items in
    let after : j ≡ e.close + 1 = e.after in
    omega arith

pub set_inside : (p : List ℕ) (i : ℕ) (s : Set) (j : ℕ) → SetAt p i s j → j ≤ length p
set_inside p i s j e =
    let inside : e.close < length p = (items_close p _ _ _ s.items e.close e.items).inside in
    let after : j ≡ e.close + 1 = e.after in
    omega arith

-- a token ends past its place
pub TokenAt-past : (way : Way) (p : List ℕ) (i : ℕ) (t : Token) (j : ℕ) → TokenAt way p i t j → i < j
TokenAt-past way p i (Byte b) j (inl e) = omega (arith, e.1)
TokenAt-past way p i (Byte b) j (inr e) = omega (arith, e.2)
TokenAt-past way p i Any j e = omega (arith, e.1)
TokenAt-past way p i (OneOf s) j e = set_past p i s j e
TokenAt-past way p i Free j e = e.0.some
TokenAt-past way p i Local j e = e.0.some
TokenAt-past way p i Dirs j e = let some : i < e.run_end = e.run.some in let after : j ≡ e.run_end + 1 = e.after in omega arith
TokenAt-past way p i Nothing j e =
    let inside : i < length p = TokenAt-inside way p i Nothing j e in let at_end : j ≡ length p = e.1 in omega arith

-- there are no more tokens than bytes
pub From-short : (way : Way) (p : List ℕ) (i : ℕ) (ts : List Token) → From way p i ts → i + length ts ≤ length p
From-short way p i [] e = let at_end : i ≡ length p = e in omega arith
From-short way p i (t ∷ ts) e =
    let past : i < e.0 = TokenAt-past way p i t e.0 e.1 in
    let rest : e.0 + length ts ≤ length p = From-short way p e.0 ts e.2 in
    omega arith

-- a run of stars has an end
run_from : (p : List ℕ) (i n place : ℕ) → length p ≤ place + n → i < place → place ≤ length p → ((m : ℕ) → i ≤ m → m < place → HasByte p m star)
    → (j : ℕ) × IsRun p i j × (j ≤ length p)
run_from p i zero place fuel past inside stars =
    (place, record { some = past; stars = stars; whole = λ h. let wrong : place < length p = h.inside in omega arith }, inside)
run_from p i (suc n) place fuel past inside stars = elim (cases_lt place (length p)) [
  | inr at_end ↦ (place, record { some = past; stars = stars; whole = λ h. let wrong : place < length p = h.inside in omega arith }, inside)
  | inl more ↦ elim (eqb_tells (get_or p place 0) star) [
    | inr other ↦ (place, record { some = past; stars = stars; whole = λ h. other.1 h.is }, inside)
    | inl same ↦ run_from p i n (place + 1) (omega arith) (omega arith) (omega arith) (longer same.1 more)
  ]
] where
  longer : get_or p place 0 ≡ star → place < length p → (m : ℕ) → i ≤ m → m < place + 1 → HasByte p m star
  longer is more m from below = elim (cases_lt m place) [
    | inl before ↦ stars m from before
    | inr last ↦ let at : place ≡ m = omega arith in subst (λ (x : ℕ). HasByte p x star) at (record { inside = more; is = is })
  ]

run_exists : (p : List ℕ) (i : ℕ) → HasByte p i star → (j : ℕ) × IsRun p i j × (j ≤ length p)
run_exists p i h =
    let inside : i < length p = h.inside in
    run_from p i (length p) (i + 1) (omega arith) (omega arith) (omega arith)
    (λ m from below. let at : i ≡ m = omega arith in subst (λ (x : ℕ). HasByte p x star) at h)

-- no place inside is without a token
star_token : (way : Way) (p : List ℕ) (i j : ℕ) → IsRun p i j → j ≤ length p
    → ((t : Token) (m : ℕ) → TokenAt way p i t m → m ≤ length p → ⊥) → ⊥
star_token way p i j run inside none = by_mode (is_path way) refl where
  bounded : is_path way ≡ true → IsBounded p i j → ⊥
  bounded path both =
      none Free j (
        run,
        λ path'. (
          both,
          λ h.
              let before : j < length p = h.inside in
              none Dirs (j + 1) (record { path = path; run_end = j; run = run; bounded = both; slash = h; after = refl }) (omega arith),
        ),
      )
      inside

  by_mode : (path : Bool) → is_path way ≡ path → ⊥
  by_mode true path = none Local j (run, path, bounded path) inside
  by_mode false plain = none Free j (run, λ path. let wrong : true ≡ false = sym path ∙ plain in cc) inside

some_token : (way : Way) (p : List ℕ) (i : ℕ) → i < length p
    → ((t : Token) (j : ℕ) → TokenAt way p i t j → j ≤ length p → ⊥) → ⊥
some_token way p i inside none = elim (eqb_tells (get_or p i 0) backslash) [
  | inl same ↦ escape (record { inside = inside; is = same.1 })
  | inr not_escape ↦ elim (eqb_tells (get_or p i 0) question_mark) [
    | inl same ↦ none Any (i + 1) (record { inside = inside; is = same.1 }, refl) (omega arith)
    | inr not_any ↦ elim (eqb_tells (get_or p i 0) open_bracket) [
      | inl same ↦
          none Nothing (length p)
          (inr (record { inside = inside; is = same.1 }, λ s j set. none (OneOf s) j set (set_inside p i s j set)), refl)
          (omega arith)
      | inr not_set ↦ elim (eqb_tells (get_or p i 0) star) [
        | inl same ↦ let run = run_exists p i (record { inside = inside; is = same.1 }) in star_token way p i run.0 run.1 run.2 none
        | inr not_star ↦
            none (Byte (get_or p i 0)) (i + 1)
            (inr (record { inside = inside; is = refl }, stands_for_itself (get_or p i 0) not_star.1 not_any.1 not_set.1 not_escape.1, refl)) (omega arith)
      ]
    ]
  ]
] where
  escape : HasByte p i backslash → ⊥
  escape h = elim (cases_lt (i + 1) (length p)) [
    | inl more ↦
        let e : IsEscaped p i (get_or p (i + 1) 0) = record { escape = h; byte = record { inside = more; is = refl } } in
        ⊎_elim
        (λ (dead : is_dead way (get_or p (i + 1) 0) ≡ true). none Nothing (length p) (inl (h, inr (get_or p (i + 1) 0, e.byte, dead)), refl) (omega arith))
        (λ (live : is_dead way (get_or p (i + 1) 0) ≡ false). none (Byte (get_or p (i + 1) 0)) (i + 2) (inl (e, refl, ap not live)) (omega arith))
        (cases_Bool (is_dead way (get_or p (i + 1) 0)))
    | inr last ↦ none Nothing (length p) (inl (h, inl (omega arith)), refl) (omega arith)
  ]

some_reading : (way : Way) (p : List ℕ) (n i : ℕ) → i ≤ length p → length p ≤ i + n → ((ts : List Token) → From way p i ts → ⊥) → ⊥
some_reading way p zero i inside fuel none = none [] (omega arith)
some_reading way p (suc n) i inside fuel none = elim (cases_lt i (length p)) [
  | inr at_end ↦ none [] (omega arith)
  | inl more ↦
      some_token way p i more (λ t j here low.
      let past : i < j = TokenAt-past way p i t j here in
      some_reading way p n j low (omega arith) (λ ts read. none (t ∷ ts) (j, here, read)))
]

-- An order of numbers that follows from each reading of the pattern holds.
pub settle : (way : Way) (p : List ℕ) (a b : ℕ) → ((ts : List Token) → Tokens way p ts → a ≤ b) → a ≤ b
settle way p a b follows = elim (cases_lt b a) [
  | inl above ↦
      absurd (some_reading way p (length p) 0 (omega arith) (omega arith) (λ ts read. let low : a ≤ b = follows ts read in omega arith))
  | inr low ↦ low
]
