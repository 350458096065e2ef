-- Components of a value: where one ends, and where the next begins. In plain mode each byte is a component of its own.
use Rattle.std.proofs.Common.{◌≡◌, ◌≢◌, ◌⊎◌, inl, inr, ℕ, zero, suc, ◌+◌, ◌-◌, ◌<◌, ◌≤◌, Bool, true, false, not, IsTrue, List, [], ◌∷◌, length, get_or, drop, refl, sym, ◌∙◌, ap, subst, arith, add-one, add-zero, drop-cons, if◌then◌else◌, eq-eqb, eqb-true, ne_eqb, length-drop, Option, Some, None}
use Rattle.std.proofs.Math.ListN.{drop_of_length-le}
use Rattle.std.proofs.lemmas.Bool.{cases_Bool, cases_lt}
use Rattle.std.proofs.lemmas.Bool.Decides.{eqb_tells}
use Rattle.glob_matcher.specs.declared.wildmatch.way.Way.{Way}
use Rattle.glob_matcher.specs.declared.wildmatch.marks.Mark.{Mark}
use Rattle.glob_matcher.specs.Bytes.{fold, is_path, slash}
use Rattle.glob_matcher.specs.Sets.{set_holds}
use Rattle.glob_matcher.specs.Tokens.{Token, Byte, Any, OneOf, Free, Local, Dirs, Nothing}
use Rattle.glob_matcher.specs.Matching.{Fits}
use Rattle.glob_matcher.proofs.lemmas.cutting.SlashLemmas.{fold_slash, no_slash_in_set}
use Rattle.glob_matcher.specs.Private.Components.{ends_by, ends, separates_by, separates, reach, next_component}

-- with a local mark: the byte here ends no component
abbrev pub IsInner : Way → List ℕ → ℕ → Option Mark → Type 0
IsInner way v k None = Unit {0}
IsInner way v k (Some m) = ends way (get_or v k 0) ≡ false

ends_by-plain : (path : Bool) (b : ℕ) → path ≡ false → ends_by path b ≡ true
ends_by-plain true b plain = cc
ends_by-plain false b plain = refl

pub ends-plain : (way : Way) (b : ℕ) → is_path way ≡ false → ends way b ≡ true
ends-plain way b plain = ends_by-plain (is_path way) b plain

ends_by-slash : (path : Bool) (b : ℕ) → path ≡ true → ends_by path b ≡ true → b ≡ slash
ends_by-slash true b path end = eqb-true b slash end
ends_by-slash false b path end = cc

ends_by-inner : (path : Bool) (b : ℕ) → path ≡ true → b ≢ slash → ends_by path b ≡ false
ends_by-inner true b path other = ne_eqb b slash other
ends_by-inner false b path other = cc

pub ends-inner : (way : Way) (b : ℕ) → IsTrue (is_path way) → b ≢ slash → ends way b ≡ false
ends-inner way b path other = ends_by-inner (is_path way) b path other

ends_by-at_slash : (path : Bool) (b : ℕ) → b ≡ slash → ends_by path b ≡ true
ends_by-at_slash true b is = eq-eqb b slash is
ends_by-at_slash false b is = refl

pub ends-at_slash : (way : Way) (b : ℕ) → b ≡ slash → ends way b ≡ true
ends-at_slash way b is = ends_by-at_slash (is_path way) b is

pub ends-or_not : (way : Way) (b : ℕ) → (ends way b ≡ true) ⊎ (ends way b ≡ false)
ends-or_not way b = cases_Bool (ends way b)

ends_by-same : (path : Bool) (b c : ℕ) → (b ≡ slash → c ≡ slash) → (c ≡ slash → b ≡ slash) → ends_by path b ≡ ends_by path c
ends_by-same false b c to from = refl
ends_by-same true b c to from = elim (eqb_tells b slash) [
  | inl is ↦ is.0 ∙ sym (eq-eqb c slash (to is.1))
  | inr other ↦ other.0 ∙ sym (ne_eqb c slash (λ is. other.1 (from is)))
]

ends_by-wild : (path : Bool) (c : ℕ) → (IsTrue path → c ≢ slash) → not path ≡ ends_by path c
ends_by-wild true c other = sym (ne_eqb c slash (other refl))
ends_by-wild false c other = refl

-- Where a token takes a byte, both end a component or neither does.
pub separates-fits : (way : Way) (t : Token) (c : ℕ) → Fits way t c → separates way t ≡ ends way c
separates-fits way (Byte b) c fits =
    ends_by-same (is_path way) b c
    (λ is. fold_slash way c (subst (λ (x : ℕ). fold way c ≡ fold way x) is fits))
    (λ is. fold_slash way b (sym (subst (λ (x : ℕ). fold way x ≡ fold way b) is fits)))
separates-fits way Any c fits = ends_by-wild (is_path way) c fits
separates-fits way (OneOf s) c fits =
    ends_by-wild (is_path way) c (λ path is. no_slash_in_set way s path (subst (λ (b : ℕ). IsTrue (set_holds way s b)) is fits))
separates-fits way Free c fits = absurd fits
separates-fits way Local c fits = absurd fits
separates-fits way Dirs c fits = absurd fits
separates-fits way Nothing c fits = absurd fits

separates_by-slash : (path : Bool) (t : Token) → path ≡ true → separates_by path t ≡ true → t ≡ Byte slash
separates_by-slash path (Byte b) is apart = ap Byte (ends_by-slash path b is apart)
separates_by-slash true Any is apart = cc
separates_by-slash false Any is apart = cc
separates_by-slash true (OneOf s) is apart = cc
separates_by-slash false (OneOf s) is apart = cc
separates_by-slash path Free is apart = cc
separates_by-slash path Local is apart = cc
separates_by-slash path Dirs is apart = cc
separates_by-slash path Nothing is apart = cc

-- in path mode the slash alone ends a component
pub separates-slash : (way : Way) (t : Token) → IsTrue (is_path way) → separates way t ≡ true → t ≡ Byte slash
separates-slash way t path apart = separates_by-slash (is_path way) t path apart

reach-some : (way : Way) (bs : List ℕ) → 1 ≤ reach way bs
unfolding reach
reach-some way [] = omega arith
reach-some way (b ∷ bs) = cases (ends way b) where
  cases : (e : Bool) → 1 ≤ (if e then 1 else suc (reach way bs))
  cases true = omega arith
  cases false = omega arith

reach-high : (way : Way) (bs : List ℕ) → reach way bs ≤ suc (length bs)
unfolding reach
reach-high way [] = omega arith
reach-high way (b ∷ bs) = cases (ends way b) (reach-high way bs) where
  cases : (e : Bool) → reach way bs ≤ suc (length bs) → (if e then 1 else suc (reach way bs)) ≤ suc (suc (length bs))
  cases true h = omega arith
  cases false h = omega arith

module _ (way : Way) (v : List ℕ) where
  next-here : (k : ℕ) → k < length v
      → next_component way v k ≡ k + (if ends way (get_or v k 0) then 1 else suc (reach way (drop (suc k) v)))
  unfolding next_component reach
  next-here k inside = ap (λ (bs : List ℕ). k + reach way bs) (drop-cons v k 0 inside)

  pub next-end : (k : ℕ) → k < length v → ends way (get_or v k 0) ≡ true → next_component way v k ≡ k + 1
  next-end k inside end =
      next-here k inside ∙ ap (λ (b : Bool). k + (if b then 1 else suc (reach way (drop (suc k) v)))) end

  pub next-outside : (k : ℕ) → length v ≤ k → next_component way v k ≡ k + 1
  unfolding next_component reach
  next-outside k past = ap (λ (bs : List ℕ). k + reach way bs) (drop_of_length-le v past)

  next-inner_suc : (k : ℕ) → k < length v → ends way (get_or v k 0) ≡ false
      → next_component way v (suc k) ≡ next_component way v k
  unfolding next_component
  next-inner_suc k inside within =
      let here : next_component way v k ≡ k + suc (reach way (drop (suc k) v)) =
      next-here k inside ∙ ap (λ (b : Bool). k + (if b then 1 else suc (reach way (drop (suc k) v)))) within in
      let there : next_component way v (suc k) ≡ suc k + reach way (drop (suc k) v) = refl in
      omega arith

  pub next-inner : (k : ℕ) → k < length v → ends way (get_or v k 0) ≡ false
      → next_component way v (k + 1) ≡ next_component way v k
  next-inner k inside within = rw add-one (next-inner_suc k inside within)

  pub next-above : (k : ℕ) → k < next_component way v k
  unfolding next_component
  next-above k = let some : 1 ≤ reach way (drop k v) = reach-some way (drop k v) in omega arith

  pub next-high : (k : ℕ) → k ≤ length v → next_component way v k ≤ length v + 1
  unfolding next_component
  next-high k inside =
      let high : reach way (drop k v) ≤ suc (length (drop k v)) = reach-high way (drop k v) in
      let long : length (drop k v) ≡ length v - k = length-drop k v in
      omega arith

  next-mono_one : (k : ℕ) → next_component way v k ≤ next_component way v (k + 1)
  next-mono_one k = elim (cases_lt k (length v)) [
    | inl inside ↦ elim (ends-or_not way (get_or v k 0)) [
      | inl end ↦
          let here : next_component way v k ≡ k + 1 = next-end k inside end in
          let past : k + 1 < next_component way v (k + 1) = next-above (k + 1) in omega arith
      | inr within ↦ let same : next_component way v (k + 1) ≡ next_component way v k = next-inner k inside within in omega arith
    ]
    | inr outside ↦
        let here : next_component way v k ≡ k + 1 = next-outside k outside in
        let past : k + 1 < next_component way v (k + 1) = next-above (k + 1) in omega arith
  ]

  next-mono_by : (k d : ℕ) → next_component way v k ≤ next_component way v (k + d)
  next-mono_by k zero = let same : next_component way v k ≡ next_component way v (k + 0) = ap (next_component way v) (sym (add-zero k)) in omega arith
  next-mono_by k (suc d) =
      let so_far : next_component way v k ≤ next_component way v (k + d) = next-mono_by k d in
      let one : next_component way v (k + d) ≤ next_component way v (k + d + 1) = next-mono_one (k + d) in
      let place : k + d + 1 ≡ k + suc d = omega arith in
      let same : next_component way v (k + d + 1) ≡ next_component way v (k + suc d) = ap (next_component way v) place in
      omega arith

  -- A later place is before no earlier component.
  pub next-mono : (k e : ℕ) → k ≤ e → next_component way v k ≤ next_component way v e
  next-mono k e low =
      let so_far : next_component way v k ≤ next_component way v (k + (e - k)) = next-mono_by k (e - k) in
      let place : k + (e - k) ≡ e = omega arith in
      let same : next_component way v (k + (e - k)) ≡ next_component way v e = ap (next_component way v) place in
      omega arith

  -- What ends a component at a later place ends this one or a later one.
  pub next-before_end : (k e : ℕ) → k ≤ e → e < length v → ends way (get_or v e 0) ≡ true
      → next_component way v k ≤ e + 1
  next-before_end k e low inside end =
      let so_far : next_component way v k ≤ next_component way v e = next-mono k e low in
      let here : next_component way v e ≡ e + 1 = next-end e inside end in
      omega arith

  -- in plain mode each byte is a component
  pub next-plain : (k : ℕ) → is_path way ≡ false → next_component way v k ≡ k + 1
  next-plain k plain = elim (cases_lt k (length v)) [
    | inl inside ↦ next-end k inside (ends-plain way (get_or v k 0) plain)
    | inr outside ↦ next-outside k outside
  ]
