-- From the empty mask of a block to its bytes.
use Rattle.std.proofs.Common.{◌≡◌, ℕ, ◌+◌, ◌-◌, ◌%◌, ◌^◌, ◌<◌, ◌≤◌, eqb, ltb, leb, Bool, true, false, cond, not, List, [], ◌∷◌, map, length, get_or, replicate, bit_and, bit_or, Fits, w8, refl, sym, ap, ap₂, ◌∙◌, arith}
use Rattle.std.specs.Prelude.{◌||◌, ◌&&◌}
use Rattle.std.proofs.lemmas.Bool.{agree_below, agree_below_at, not-true, eqb-true}
use Rattle.std.proofs.lemmas.Simd.{zip2_splat, get_or-zip2, length-zip2, mask_l-mod, length-chunk, get_or-chunk, leading_from_mask_l}
use Rattle.std.proofs.lemmas.List.{get_or-map, length-map}
use Rattle.std.proofs.lemmas.List.Sums.{prefix_len_passes}
use lib.Lanes.{chunk, zip2, mask_l, top}
use Rattle.git_paths.specs.Private.Usual.{BeginAsNames}

-- the lanes of comparisons
abbrev pub hit : ℕ → ℕ → ℕ
hit a b = cond (eqb a b) 255 0

abbrev pub below : ℕ → ℕ → ℕ
below a b = cond (ltb a b) 255 0

abbrev pub at_most : ℕ → ℕ → ℕ
at_most a b = cond (leb a b) 255 0

zip2-map : (h : ℕ → ℕ → ℕ) (f g : ℕ → ℕ) (xs : List ℕ) → zip2 h (map f xs) (map g xs) ≡ map (λ x. h (f x) (g x)) xs
zip2-map h f g [] = refl
zip2-map h f g (x ∷ xs) = ap (λ r. h (f x) (g x) ∷ r) (zip2-map h f g xs)

-- an operation on two vectors that were computed lane by lane from v
pub joined : (h : ℕ → ℕ → ℕ) (f g : ℕ → ℕ) (v : List ℕ) {a b : List ℕ} → a ≡ map f v → b ≡ map g v → zip2 h a b ≡ map (λ x. h (f x) (g x)) v
joined h f g v p q = ap₂ (zip2 h) p q ∙ zip2-map h f g v

splat_left : (h : ℕ → ℕ → ℕ) (y : ℕ) (xs : List ℕ) → zip2 h (replicate (length xs) y) xs ≡ map (h y) xs
splat_left h y [] = refl
splat_left h y (x ∷ xs) = ap (λ r. h y x ∷ r) (splat_left h y xs)

-- `simd_ge` has its sides changed
pub from_splat : (h : ℕ → ℕ → ℕ) (v : List ℕ) (n y : ℕ) → length v ≡ n → zip2 h (replicate n y) v ≡ map (h y) v
from_splat h v n y long = ap (λ k. zip2 h (replicate k y) v) (sym long) ∙ splat_left h y v

-- no lane is set where the mask is 0
clear : (z : List ℕ) (j : ℕ) → j < length z → length z ≤ 64 → eqb (mask_l (map (top 7) z) % 2 ^ 64) 0 ≡ true → top 7 (get_or z j 0) ≡ false
clear z j inside few none =
    let mask = mask_l-mod (map (top 7) z) 64 (omega (arith, length-map z (top 7))) in
    let whole = leading_from_mask_l (top 7) z (sym mask ∙ eqb-true _ 0 none) in
    not-true _ (prefix_len_passes (λ x. not (top 7 x)) z j 0 (omega (arith, whole, inside)))

-- bytes whose lane isn't set are none of those by which lanes are
pub none_is : (q : ℕ → Bool) (d : List ℕ) (i n : ℕ) (z : List ℕ) → i + n ≤ length d → n ≤ 64 → ((k : ℕ) → Fits w8 (get_or d k 0))
    → eqb (mask_l (map (top 7) z) % 2 ^ 64) 0 ≡ true → (f : ℕ → ℕ) → z ≡ map f (chunk i n d)
    → agree_below (λ x. top 7 (f x) || not (q x)) (λ _. true) 256 ≡ true → (k : ℕ) → i ≤ k → k < i + n → q (get_or d k 0) ≡ false
none_is q d i n z room few fits none f lanes all k from to =
    let v = chunk i n d in
    let long = length-chunk i n d room in
    let long_z = ap length lanes ∙ length-map v f ∙ long in
    let back : i + (k - i) ≡ k = omega arith in
    let at = get_or-chunk i n d (k - i) 0 (omega arith) ∙ ap (λ j. get_or d j 0) back in
    let lane = ap (λ l. get_or l (k - i) 0) lanes ∙ get_or-map f v (k - i) 0 0 (omega (arith, long)) ∙ ap f at in
    let unset = ap (top 7) (sym lane) ∙ clear z (k - i) (omega (arith, long_z)) (omega (arith, long_z)) none in
    not-true _ (sym (ap (λ b. b || not (q (get_or d k 0))) unset) ∙ agree_below_at (λ x. top 7 (f x) || not (q x)) (λ _. true) 256 (get_or d k 0) all (fits k).fits)

both_unset : (p q r : Bool) → top 7 (bit_and (cond p 255 0) (bit_or (cond q 255 0) (cond r 255 0))) ≡ false → (p && (q || r)) ≡ false
both_unset true true true is = is
both_unset true true false is = is
both_unset true false true is = is
both_unset true false false is = refl
both_unset false true true is = refl
both_unset false true false is = refl
both_unset false false true is = refl
both_unset false false false is = refl

-- a lane is set where a slash or a dot has a slash before it
pub none_begins : (told : List ℕ) (at : ℕ) → 1 ≤ at → at + 16 ≤ length told
    → eqb (mask_l (map (top 7) (zip2 bit_and (zip2 hit (chunk (at - 1) 16 told) (replicate 16 47)) (zip2 bit_or (zip2 hit (chunk at 16 told) (replicate 16 47)) (zip2 hit (chunk at 16 told) (replicate 16 46))))) % 2 ^ 64) 0 ≡ true
    → BeginAsNames told at (at + 16)
none_begins told at some room none k from to =
    let here = chunk at 16 told in
    let before = chunk (at - 1) 16 told in
    let long_here = length-chunk at 16 told room in
    let long_before = length-chunk (at - 1) 16 told (omega arith) in
    let f = λ (x : ℕ). hit x 47 in
    let g = λ (x : ℕ). bit_or (hit x 47) (hit x 46) in
    let lanes = ap₂ (zip2 bit_and) (zip2_splat hit before 16 47 long_before) (joined bit_or _ _ here (zip2_splat hit here 16 47 long_here) (zip2_splat hit here 16 46 long_here)) in
    let a = map f before in
    let b = map g here in
    let long_a = length-map before f ∙ long_before in
    let long_b = length-map here g ∙ long_here in
    let z = zip2 bit_and a b in
    let long = length-zip2 bit_and a b (long_a ∙ sym long_b) ∙ long_a in
    let j = k - at in
    let forth : at + j ≡ k = omega arith in
    let back : at - 1 + j ≡ k - 1 = omega arith in
    let unset = clear z j (omega (arith, long)) (omega (arith, long)) (sym (ap (λ l. eqb (mask_l (map (top 7) l) % 2 ^ 64) 0) lanes) ∙ none) in
    let right = get_or-map g here j 0 0 (omega (arith, long_here)) ∙ ap g (get_or-chunk at 16 told j 0 (omega arith) ∙ ap (λ i. get_or told i 0) forth) in
    let left = get_or-map f before j 0 0 (omega (arith, long_before)) ∙ ap f (get_or-chunk (at - 1) 16 told j 0 (omega arith) ∙ ap (λ i. get_or told i 0) back) in
    let lane = get_or-zip2 bit_and a b j 0 0 0 (omega (arith, long_a)) (omega (arith, long_b)) ∙ ap₂ bit_and left right in
    both_unset (eqb (get_or told (k - 1) 0) 47) (eqb (get_or told k 0) 47) (eqb (get_or told k 0) 46) (sym (ap (top 7) lane) ∙ unset)
