-- What a list and a stack of lists may take, summed from the last one on.
use Rattle.std.proofs.Common.{◌≡◌, ℕ, ◌+◌, ◌≤◌, ◌-◌, List, length, drop, get_or, Option, None, Some, sym, ap, ◌∙◌, length-append, arith}
use Rattle.std.specs.Prelude.{slice_get, sum_by}
use Rattle.std.proofs.lemmas.List.{drop-drop}
use Rattle.std.proofs.lemmas.List.Sums.{sum_by-drop_more, sum_by-le, sum_by-take-drop}
use Rattle.std.proofs.lemmas.Option.{get_or_from_slice_get, slice_get_within}
use Rattle.gix_glob.specs.PatternLimits.{pattern_look_limit, pattern_step_limit}
use Rattle.gix_glob.specs.declared.pattern.Case.{Case}
use Rattle.gix_glob.proofs.lemmas.Limits.{pattern_look_limit-le, pattern_step_limit-le, within_more}
use Rattle.gix_glob.specs.Stripping.{RestOf}

-- ---- sums from an element on

module _ {X : Type 0} (f : X → ℕ) (xs : List X) where
  pub sum_by-from : (i next : ℕ) (x : X) → next ≡ i + 1 → slice_get xs i ≡ Some x → f x + sum_by f (drop next xs) ≡ sum_by f (drop i xs)
  sum_by-from i next x after there =
      let more : sum_by f (drop i xs) ≡ f (get_or xs i x) + sum_by f (drop (i + 1) xs) = sum_by-drop_more f xs i x (slice_get_within xs i x there) in
      rw after (sym (rw (get_or_from_slice_get xs i x x there) at more))

  -- what was counted from the next element on, and then for this one
  pub counted-from : (start counted total i next : ℕ) (x : X) → next ≡ i + 1 → slice_get xs i ≡ Some x
      → counted ≤ start + sum_by f (drop next xs) → total ≤ counted + f x → total ≤ start + sum_by f (drop i xs)
  counted-from start counted total i next x after there before here = omega (arith, sum_by-from i next x after there, before, here)

  -- what was counted from some element on is at most the whole sum
  pub counted-all : (start total i : ℕ) → total ≤ start + sum_by f (drop i xs) → total ≤ start + sum_by f xs
  counted-all start total i from = omega (arith, sum_by-take-drop f xs i, from)

  -- the same where something else was counted first
  pub counted-all_after : (start first total i : ℕ) → total ≤ start + first + sum_by f (drop i xs) → total ≤ start + (first + sum_by f xs)
  counted-all_after start first total i from = omega (arith, sum_by-take-drop f xs i, from)

-- where each takes nothing, so do all
pub sum_by-nothing : {X : Type 0} (xs : List X) → sum_by (λ (x : X). 0) xs ≡ 0
sum_by-nothing {X} xs = (let most = sum_by-le (λ (x : X). 0) 0 xs (λ i x got. omega arith) in omega (arith, most))

-- ---- sums of fewer elements

-- what the elements from a later one on take is within what those from an earlier one on do
pub sum_by-drop-le : {X : Type 0} (f : X → ℕ) (xs : List X) (i j : ℕ) → i ≤ j → sum_by f (drop j xs) ≤ sum_by f (drop i xs)
sum_by-drop-le f xs i j low =
    let at : i + (j - i) ≡ j = omega arith in
    let same = drop-drop (j - i) i xs in
    let split = sum_by-take-drop f (drop i xs) (j - i) in
    let is : sum_by f (drop (j - i) (drop i xs)) ≡ sum_by f (drop j xs) = ap (sum_by f) same ∙ ap (λ (n : ℕ). sum_by f (drop n xs)) at in
    omega (arith, split, is)

-- ---- what a base leaves is no longer than the path

length-RestOf : (case : Case) (base : Option (List ℕ)) (path rest : List ℕ) → RestOf case base path rest → length rest ≤ length path
length-RestOf case None path rest left = omega (arith, ap length left)
length-RestOf case (Some base) path rest left = omega (arith, ap length left.joined, length-append left.front rest)

module _ (case : Case) (base : Option (List ℕ)) (path rest : List ℕ) (left : RestOf case base path rest) (p total counted : ℕ) where
  pub steps-under : total ≤ counted + pattern_step_limit p (length rest) → total ≤ counted + pattern_step_limit p (length path)
  steps-under within = within_more _ _ _ _ within (pattern_step_limit-le p _ _ (length-RestOf case base path rest left))

  pub looks-under : total ≤ counted + pattern_look_limit p (length rest) → total ≤ counted + pattern_look_limit p (length path)
  looks-under within = within_more _ _ _ _ within (pattern_look_limit-le p _ _ (length-RestOf case base path rest left))
