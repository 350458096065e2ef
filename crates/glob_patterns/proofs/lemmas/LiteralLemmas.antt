-- What a stretch without special bytes splits: the value has the same bytes there, up to case where the mode folds.
use Rattle.std.proofs.Common.{◌≡◌, ◌↔◌, ◌⊎◌, ⊎_elim, ℕ, zero, suc, ◌+◌, ◌-◌, ◌<◌, ◌≤◌, true, false, List, ◌∷◌, length, get_or, take, drop, map, None, Some, refl, sym, ◌∙◌, ap, subst, arith, codes, nat_lt}
use Rattle.std.specs.List.{list_any, position_or_len}
use Rattle.std.proofs.lemmas.Bool.{and_parts, ltb-false, cases_Bool, cases_eq, false≢true, false_from_ne_true, not-true}
use Rattle.std.proofs.lemmas.Bool.Decides.{Decides-eqb}
use Rattle.std.proofs.lemmas.List.{get_or-map, ext_get_or, length-map, length-take, length-drop, get_or-take, get_or-drop}
use Rattle.std.proofs.lemmas.List.Folds.{list_any_at, list_any_none}
use Rattle.std.proofs.lemmas.List.Quantifiers.{position-Some}
use Rattle.std.proofs.lemmas.List.Sums.{fails_before_first}
use Rattle.std.proofs.lemmas.Slice.Eq.{starts_is}
use Rattle.glob_matcher.specs.declared.wildmatch.way.Way.{Way}
use Rattle.glob_matcher.specs.Bytes.{fold, has_slash, is_path, is_special}
use Rattle.glob_patterns.specs.Laws.LiteralBytes.{AreAlike}
use Rattle.glob_patterns.specs.Patterns.{is_star_and_literal, first_special}
use Rattle.glob_matcher.specs.Tokens.{Byte, IsRun}
use Rattle.glob_matcher.specs.Matching.{SplitsBy, SplitsFrom}
use Rattle.glob_matcher.proofs.lemmas.reading.Reading.{TokenAt-bare}
use Rattle.glob_matcher.proofs.lemmas.cutting.CutLemmas.{end_in, end_out, one_in, one_out}
use Rattle.glob_patterns.proofs.lemmas.LoneStars.{lone_star_is_run, lone_star_in, lone_star_out}

-- no byte is special from place i up to place j
pub record IsLiteral (p : List ℕ) (i j : ℕ) : Type 0 where
  pub at : (y : ℕ) → i ≤ y → y < j → is_special (get_or p y 0) ≡ false

-- from place k on the value has the bytes of the pattern from place i up to place j
pub record IsCopied (way : Way) (v p : List ℕ) (k i j : ℕ) : Type 0 where
  pub at : (x y : ℕ) → i ≤ y → y < j → x + i ≡ y + k → fold way (get_or v x 0) ≡ fold way (get_or p y 0)

-- what splits a value past a literal stretch, where the value has its bytes
pub literal_out : (way : Way) (p v : List ℕ) (n k e i j : ℕ) → k + n ≡ e → i + n ≡ j → j ≤ length p → k ≤ length v → IsLiteral p i j
    → SplitsFrom v k p i way → (e ≤ length v) × IsCopied way v p k i j × SplitsFrom v e p j way
literal_out way p v zero k e i j ke ij inside reach plain all =
    let k_is : k ≡ e = omega arith in
    let i_is : i ≡ j = omega arith in
    (omega arith, record { at = λ x y low high same. absurd (omega arith) }, subst (λ (m : ℕ). SplitsFrom v m p j way) k_is (subst (λ (m : ℕ). SplitsFrom v k p m way) i_is all))
literal_out way p v (suc n) k e i j ke ij inside reach plain all =
    let first = one_out way p v i (i + 1) k (Byte (get_or p i 0)) tt (TokenAt-bare way p i (get_or p i 0) (record { inside = omega arith; is = refl }) (plain.at i (omega arith) (omega arith))) all in
    let rest = literal_out way p v n (k + 1) e (i + 1) j (omega arith) (omega arith) inside (let below = first.0 in omega arith) (record { at = λ y low high. plain.at y (omega arith) high }) first.2 in (
      rest.0,
      record {
        at = λ x y low high same. ⊎_elim
            (λ (here : y ≡ i). let there : x ≡ k = omega arith in subst (λ (m : ℕ). fold way (get_or v m 0) ≡ fold way (get_or p y 0)) (sym there) (subst (λ (m : ℕ). fold way (get_or v k 0) ≡ fold way (get_or p m 0)) (sym here) first.1))
            (λ (later : y ≡ i → ⊥). rest.1.at x y (omega arith) high (omega arith))
            (cases_eq y i);
      },
      rest.2,
    )

pub literal_in : (way : Way) (p v : List ℕ) (n k e i j : ℕ) → k + n ≡ e → i + n ≡ j → j ≤ length p → e ≤ length v → IsLiteral p i j
    → IsCopied way v p k i j → SplitsFrom v e p j way → SplitsFrom v k p i way
literal_in way p v zero k e i j ke ij inside reach plain same all =
    let k_is : e ≡ k = omega arith in
    let i_is : j ≡ i = omega arith in
    subst (λ (m : ℕ). SplitsFrom v m p i way) k_is (subst (λ (m : ℕ). SplitsFrom v e p m way) i_is all)
literal_in way p v (suc n) k e i j ke ij inside reach plain same all =
    one_in way p v i (i + 1) k (Byte (get_or p i 0)) (TokenAt-bare way p i (get_or p i 0) (record { inside = omega arith; is = refl }) (plain.at i (omega arith) (omega arith))) (omega arith)
    (same.at k i (omega arith) (omega arith) (omega arith))
    (literal_in way p v n (k + 1) e (i + 1) j (omega arith) (omega arith) inside reach (record { at = λ y low high. plain.at y (omega arith) high }) (record { at = λ x y low high sum. same.at x y (omega arith) high (omega arith) }) all)

-- lists of one length are alike exactly where their bytes are
pub AreAlike-from : (way : Way) (xs ys : List ℕ) → length xs ≡ length ys → ((m : ℕ) → m < length xs → fold way (get_or xs m 0) ≡ fold way (get_or ys m 0)) → AreAlike way xs ys
AreAlike-from way xs ys long each =
    let f : ℕ → ℕ = fold way in
    ext_get_or 0 (map f xs) (map f ys) (length-map xs f ∙ long ∙ sym (length-map ys f))
    (λ m below. let inside : m < length xs = omega (arith, length-map xs f) in
    get_or-map f xs m 0 0 inside ∙ each m inside ∙ sym (get_or-map f ys m 0 0 (omega (arith, long))))

pub AreAlike-length : (way : Way) (xs ys : List ℕ) → AreAlike way xs ys → length xs ≡ length ys
AreAlike-length way xs ys same =
    let f : ℕ → ℕ = fold way in
    sym (length-map xs f) ∙ ap (λ (zs : List ℕ). length zs) same ∙ length-map ys f

pub AreAlike-at : (way : Way) (xs ys : List ℕ) → AreAlike way xs ys → (m : ℕ) → m < length xs → fold way (get_or xs m 0) ≡ fold way (get_or ys m 0)
AreAlike-at way xs ys same m inside =
    let f : ℕ → ℕ = fold way in
    sym (get_or-map f xs m 0 0 inside) ∙ ap (λ (zs : List ℕ). get_or zs m 0) same ∙ get_or-map f ys m 0 0 (omega (arith, AreAlike-length way xs ys same))

-- a text without special bytes is literal
literal_everywhere : (p : List ℕ) → list_any is_special p ≡ false → IsLiteral p 0 (length p)
literal_everywhere p none = record { at = λ y low high. false_from_ne_true (is_special (get_or p y 0)) (λ some. false≢true (sym none ∙ list_any_at is_special p y 0 high some)) }

-- A text without special bytes splits exactly the values that are equal to it, up to case where the mode folds.
pub literal_splits : (p v : List ℕ) (way : Way) → list_any is_special p ≡ false → SplitsBy v p way ↔ AreAlike way v p
literal_splits p v way none =
    let plain = literal_everywhere p none in (
      λ s. (let out = literal_out way p v (length p) 0 (length p) 0 (length p) (omega arith) (omega arith) (omega arith) (omega arith) plain s in
          let ends = end_out way p v (length p) (length p) refl out.2 in
          let reach = out.0 in
          AreAlike-from way v p (omega arith) (λ m inside. out.1.at m m (omega arith) (omega arith) refl)),
      λ same. (let long = AreAlike-length way v p same in
          literal_in way p v (length p) 0 (length p) 0 (length p) (omega arith) (omega arith) (omega arith) (omega arith) plain
          (record { at = λ x y low high sum. let here : x ≡ y = omega arith in subst (λ (m : ℕ). fold way (get_or v x 0) ≡ fold way (get_or p m 0)) here (AreAlike-at way v p same x (omega arith)) })
          (end_in way p v (length p) (length p) refl (omega arith))),
    )

-- A text with a literal front splits only values that begin with it, up to case where the mode folds.
pub literal_front : (p v : List ℕ) (way : Way) (n : ℕ) → n ≤ length p → IsLiteral p 0 n → SplitsBy v p way
    → (n ≤ length v) × AreAlike way (take n p) (take n v)
literal_front p v way n inside plain s =
    let out = literal_out way p v n 0 n 0 n (omega arith) (omega arith) inside (omega arith) plain s in
    let reach = out.0 in (
      reach,
      AreAlike-from way (take n p) (take n v) (simp length-take (omega arith))
          (λ m below. let small : m < n = (let l = length-take n p in omega arith) in
          ap (fold way) (get_or-take n p m 0 small) ∙ sym (out.1.at m m (omega arith) small refl) ∙ ap (fold way) (sym (get_or-take n v m 0 small))),
    )

-- A star before a literal.
literal_behind : (lit : List ℕ) → list_any is_special lit ≡ false → (y : ℕ) → 1 ≤ y → y < suc (length lit) → is_special (get_or (42 ∷ lit) y 0) ≡ false
literal_behind lit none zero low high = absurd (omega arith)
literal_behind lit none (suc m) low high = (literal_everywhere lit none).at m (omega arith) (omega arith)

module _ (way : Way) (lit : List ℕ) (none : list_any is_special lit ≡ false) where
  leading_star_is_run : IsRun (42 ∷ lit) 0 1
  leading_star_is_run = lone_star_is_run (42 ∷ lit) 0 1 refl (record { inside = omega arith; is = refl })
      (λ h. let inside = h.inside in
      false≢true (sym (literal_behind lit none 1 (omega arith) (omega arith)) ∙ ap is_special h.is))

  plain_behind : IsLiteral (42 ∷ lit) 1 (length (42 ∷ lit))
  plain_behind = record { at = literal_behind lit none }

  -- what a star and a literal split ends in the literal
  literal_end : (v : List ℕ) (e : ℕ) → e ≤ length v → SplitsFrom v e (42 ∷ lit) 1 way
      → (length lit ≤ length v) × AreAlike way lit (drop (length v - length lit) v)
  literal_end v e high later =
      let out = literal_out way (42 ∷ lit) v (length lit) e (e + length lit) 1 (length (42 ∷ lit)) refl (omega arith) (omega arith) high plain_behind later in
      let reach = out.0 in
      let ends = end_out way (42 ∷ lit) v (length (42 ∷ lit)) (e + length lit) refl out.2 in
      let place : length v - length lit ≡ e = omega arith in (
        omega arith,
        AreAlike-from way lit (drop (length v - length lit) v) (rw length-drop (omega arith))
            (λ m below. rw get_or-drop (sym (out.1.at (length v - length lit + m) (suc m) (omega arith) (omega arith) (omega arith)))),
      )

  star_before_literal_out : (v : List ℕ) → SplitsBy v (42 ∷ lit) way → (length lit ≤ length v) × AreAlike way lit (drop (length v - length lit) v)
  star_before_literal_out v s =
      let out = lone_star_out way (42 ∷ lit) 0 1 refl leading_star_is_run v 0 (omega arith) s in literal_end v out.0 out.2 out.3

  -- a value that ends in the literal has its bytes there
  ends_copied : (v : List ℕ) → length lit ≤ length v → AreAlike way lit (drop (length v - length lit) v) → (x y : ℕ) → 1 ≤ y → y < suc (length lit)
      → x + 1 ≡ y + (length v - length lit) → fold way (get_or v x 0) ≡ fold way (get_or (42 ∷ lit) y 0)
  ends_copied v fits same x zero low high sum = absurd (omega arith)
  ends_copied v fits same x (suc m) low high sum =
      let place : x ≡ length v - length lit + m = omega arith in
      ap (λ (k : ℕ). fold way (get_or v k 0)) place
      ∙ ap (fold way) (sym (get_or-drop (length v - length lit) v m 0))
      ∙ sym (AreAlike-at way lit (drop (length v - length lit) v) same m (omega arith))

  star_before_literal_in : (v : List ℕ) → (is_path way ≡ false) ⊎ (has_slash v ≡ false)
      → length lit ≤ length v → AreAlike way lit (drop (length v - length lit) v) → SplitsBy v (42 ∷ lit) way
  star_before_literal_in v open_or_bare fits same =
      let later : SplitsFrom v (length v - length lit) (42 ∷ lit) 1 way =
      literal_in way (42 ∷ lit) v (length lit) (length v - length lit) (length v) 1 (length (42 ∷ lit)) (omega arith) (omega arith) (omega arith) (omega arith) plain_behind
      (record { at = ends_copied v fits same })
      (end_in way (42 ∷ lit) v (length (42 ∷ lit)) (length v) refl (omega arith)) in
      lone_star_in way (42 ∷ lit) 0 1 refl leading_star_is_run v 0 (length v - length lit) (omega arith) (omega arith) open_or_bare later

-- A star and a literal split only values that end in the literal, up to case where the mode folds.
pub star_literal_out : (p v : List ℕ) (way : Way) → is_star_and_literal p ≡ true → SplitsBy v p way
    → (length (drop 1 p) ≤ length v) × AreAlike way (drop 1 p) (drop (length v - length (drop 1 p)) v)
star_literal_out p v way shape s =
    let both = and_parts _ _ shape in
    let whole : p ≡ 42 ∷ drop 1 p = (starts_is Decides-eqb p (codes "*") _ refl).0 both.0 in
    star_before_literal_out way (drop 1 p) (not-true _ both.1) v (subst (λ (q : List ℕ). SplitsBy v q way) whole s)

-- They split all of them in plain mode, and in path mode those without slash.
pub star_literal_in : (p v : List ℕ) (way : Way) → is_star_and_literal p ≡ true → (is_path way ≡ false) ⊎ (has_slash v ≡ false)
    → length (drop 1 p) ≤ length v → AreAlike way (drop 1 p) (drop (length v - length (drop 1 p)) v) → SplitsBy v p way
star_literal_in p v way shape open_or_bare fits same =
    let both = and_parts _ _ shape in
    let whole : p ≡ 42 ∷ drop 1 p = (starts_is Decides-eqb p (codes "*") _ refl).0 both.0 in
    subst (λ (q : List ℕ). SplitsBy v q way) (sym whole) (star_before_literal_in way (drop 1 p) (not-true _ both.1) v open_or_bare fits same)

-- where a text has no special byte by the place of the first, it has none at all
pub literal_from_place : (p : List ℕ) → first_special p ≡ None → list_any is_special p ≡ false
literal_from_place p none =
    ⊎_elim
    (λ (below : nat_lt (position_or_len is_special p) (length p) ≡ true). let h = rw below at none in absurd (cc))
    (λ (past : nat_lt (position_or_len is_special p) (length p) ≡ false).
    let reach = ltb-false _ _ past in
    list_any_none is_special p (λ k d inside. fails_before_first is_special p k d (omega arith)))
    (cases_Bool (nat_lt (position_or_len is_special p) (length p)))

-- up to the place of the first special byte a text is literal
pub literal_up_to_place : (p : List ℕ) (n : ℕ) → first_special p ≡ Some n → (n ≤ length p) × IsLiteral p 0 n
literal_up_to_place p n first =
    let found = position-Some is_special p n 0 first in
    let inside = found.0 in
    (omega arith, record { at = λ y low high. found.2 y high })
