-- Texts that agree byte by byte are alike.
use Rattle.std.proofs.Common.{◌≡◌, ◌↔◌, ℕ, ◌+◌, ◌-◌, ◌<◌, ◌≤◌, Bool, true, false, not, ◌||◌, ◌==◌, min, IsTrue, List, length, get_or, take, drop, sym, ◌∙◌, ap, arith}
use Rattle.std.proofs.Math.Nat.{min-le_left}
use Rattle.std.proofs.Math.Bool.{or-true}
use Rattle.std.proofs.lemmas.Bool.{eqb-true, false_from_ne_true}
use Rattle.std.proofs.lemmas.List.{get_or-take, get_or-drop, get_or_default, length-take, length-take-le, length-drop}
use Rattle.std.proofs.lemmas.List.Folds.{list_any_none}
use Rattle.glob_matcher.specs.declared.wildmatch.way.Way.{Way}
use Rattle.glob_matcher.specs.Bytes.{NoSlash, fold, has_slash, slash}
use Rattle.glob_patterns.specs.Laws.LiteralBytes.{AreAlike, EndsAlike}
use Rattle.glob_patterns.specs.Private.Fronts.{AgreeFrom, BeginsAlike}
use Rattle.glob_patterns.proofs.lemmas.LiteralLemmas.{AreAlike-from, AreAlike-at}

-- two stretches of n bytes, as texts of their own
module _ {way : Way} {p v : List ℕ} {i k n : ℕ} (xs ys : List ℕ) (long : length xs ≡ n) (as_long : length ys ≡ n)
    (here : (m : ℕ) → m < n → get_or xs m 0 ≡ get_or p (i + m) 0) (there : (m : ℕ) → m < n → get_or ys m 0 ≡ get_or v (k + m) 0) where
  agree_alike : AgreeFrom way p v i k n → AreAlike way xs ys
  agree_alike agree = AreAlike-from way xs ys (long ∙ sym as_long)
      (λ m below. let inside : m < n = omega arith in
      ap (fold way) (here m inside) ∙ agree.each m inside ∙ ap (fold way) (sym (there m inside)))

  alike_agree : AreAlike way xs ys → AgreeFrom way p v i k n
  alike_agree alike = record {
    each = λ m below. ap (fold way) (sym (here m below)) ∙ AreAlike-at way xs ys alike m (omega arith) ∙ ap (fold way) (there m below);
  }

-- a text is compared whole
pub alike_whole : {way : Way} {p v : List ℕ} {n : ℕ} {answer : Bool} → length p ≡ n → length v ≡ n
    → IsTrue answer ↔ AgreeFrom way p v 0 0 n → IsTrue answer ↔ AreAlike way p v
alike_whole {way} {p} {v} long as_long agree =
    let same : (xs : List ℕ) (m : ℕ) → get_or xs m 0 ≡ get_or xs (0 + m) 0 = λ xs m. ap (λ (x : ℕ). get_or xs x 0) (omega arith) in (
      λ yes. agree_alike p v long as_long (λ m below. same p m) (λ m below. same v m) (agree.0 yes),
      λ alike. agree.1 (alike_agree p v long as_long (λ m below. same p m) (λ m below. same v m) alike),
    )

-- a front is compared with the value's
pub alike_front : {way : Way} {p v : List ℕ} {n : ℕ} {answer : Bool} (place : ℕ) → n ≡ min place (length p) → n ≤ length v
    → IsTrue answer ↔ AgreeFrom way p v 0 0 n → IsTrue answer ↔ BeginsAlike way v (take place p)
alike_front {way} {p} {v} {n} place is fits agree =
    let long : length (take place p) ≡ n = length-take place p ∙ sym is in
    let few : length (take place p) ≤ length v = omega arith in
    let low : n ≤ place = (let below = min-le_left place (length p) in omega arith) in
    let as_long : length (take (length (take place p)) v) ≡ n = length-take-le (length (take place p)) v few ∙ long in
    let here : (m : ℕ) → m < n → get_or (take place p) m 0 ≡ get_or p (0 + m) 0 =
    λ m below. get_or-take place p m 0 (omega arith) ∙ ap (λ (x : ℕ). get_or p x 0) (omega arith) in
    let there : (m : ℕ) → m < n → get_or (take (length (take place p)) v) m 0 ≡ get_or v (0 + m) 0 =
    λ m below. get_or-take (length (take place p)) v m 0 (omega arith) ∙ ap (λ (x : ℕ). get_or v x 0) (omega arith) in (
      λ yes. record { fits = few; alike = agree_alike (take place p) (take (length (take place p)) v) long as_long here there (agree.0 yes) },
      λ begins. agree.1 (alike_agree (take place p) (take (length (take place p)) v) long as_long here there begins.alike),
    )

-- what follows the first byte is compared with the value's end
pub alike_end : {way : Way} {p v : List ℕ} {from k n : ℕ} {answer : Bool} → from ≡ min (length p) 1 → n ≡ length p - from → n ≤ length v → k ≡ length v - n
    → IsTrue answer ↔ AgreeFrom way p v from k n → IsTrue answer ↔ EndsAlike way v (drop 1 p)
alike_end {way} {p} {v} {from} {k} {n} first is fits at agree =
    let long : length (drop 1 p) ≡ n = length-drop 1 p ∙ omega arith in
    let few : length (drop 1 p) ≤ length v = omega arith in
    let start : length v - length (drop 1 p) ≡ k = omega arith in
    let end : List ℕ = drop (length v - length (drop 1 p)) v in
    let as_long : length end ≡ n = length-drop (length v - length (drop 1 p)) v ∙ omega arith in
    let here : (m : ℕ) → m < n → get_or (drop 1 p) m 0 ≡ get_or p (from + m) 0 =
    λ m below. get_or-drop 1 p m 0 ∙ ap (λ (x : ℕ). get_or p x 0) (omega arith) in
    let there : (m : ℕ) → m < n → get_or end m 0 ≡ get_or v (k + m) 0 =
    λ m below. get_or-drop (length v - length (drop 1 p)) v m 0 ∙ ap (λ (x : ℕ). get_or v x 0) (omega arith) in (
      λ yes. record { fits = few; alike = agree_alike (drop 1 p) end long as_long here there (agree.0 yes) },
      λ ends. agree.1 (alike_agree (drop 1 p) end long as_long here there ends.alike),
    )

-- a value without a slash at any place has none
pub is_one : {v : List ℕ} (path : Bool) (n : ℕ) → length v ≤ n → NoSlash v 0 n → true ≡ (not path || not (has_slash v))
is_one {v} path n long free =
    let none : has_slash v ≡ false = list_any_none (λ b. b == slash) v
    (λ k d inside. ap (λ b. b == slash) (get_or_default v k d 0 inside) ∙ false_from_ne_true (get_or v k 0 == slash) (λ same. free.at k (omega arith) (omega (arith, inside)) (eqb-true _ _ same))) in
    rw none (sym (or-true (not path)))
