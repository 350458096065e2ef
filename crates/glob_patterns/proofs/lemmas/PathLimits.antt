-- What a pattern looks at is no longer than the path, and a limit grows with the length that it is of.
use Rattle.std.proofs.Common.{◌≡◌, ℕ, ◌+◌, ◌-◌, ◌*◌, ◌≤◌, List, length, take, drop, arith}
use Rattle.std.proofs.Math.Nat.{mul-le-mul, mul-le-mul_left, mul_assoc}
use Rattle.std.proofs.lemmas.List.{length-drop, length-take}
use Rattle.glob_matcher.specs.Steps.{look_limit, step_limit}
use Rattle.glob_patterns.specs.PatternLimits.{pattern_look_limit, pattern_step_limit}

pub pattern_step_limit-le : (p v w : ℕ) → v ≤ w → pattern_step_limit p v ≤ pattern_step_limit p w
pattern_step_limit-le p v w shorter =
    let matched : step_limit p v ≤ step_limit p w = mul-le-mul_left (2 * (p + 1)) (omega (arith, shorter)) in omega (arith, matched, shorter)

pub pattern_look_limit-le : (p v w : ℕ) → v ≤ w → pattern_look_limit p v ≤ pattern_look_limit p w
pattern_look_limit-le p v w shorter = mul-le-mul_left (10 * (p + 1)) (omega (arith, shorter))

-- the bytes from a place on are no more than all
pub length-from : (path : List ℕ) (k : ℕ) → length (take (length path - k) (drop k path)) ≤ length path
length-from path k = simp (length-take, length-drop) (omega arith)

-- what stays within a limit stays within a greater one
pub within_more : (after before small large : ℕ) → after ≤ before + small → small ≤ large → after ≤ before + large
within_more after before small large within grows = omega (arith, within, grows)

-- what is taken one after the other stays within a limit of both
pub within_both : (after between before first second limit : ℕ) → between ≤ before + first → after ≤ between + second → first + second ≤ limit → after ≤ before + limit
within_both after between before first second limit begins ends both = omega (arith, begins, ends, both)

-- what follows a front takes no more than the whole, also with the front compared
pub steps_behind : (p q v w : ℕ) → p ≤ q → v ≤ w → w + step_limit p v ≤ pattern_step_limit q w
steps_behind p q v w shorter lower = let both : 2 * (p + 1) * (v + 1) ≤ 2 * (q + 1) * (w + 1) = mul-le-mul {n₁ = 2 * (p + 1)} {m₁ = v + 1} {n₂ = 2 * (q + 1)} {m₂ = w + 1} (omega arith) (omega arith) in omega (arith, both)

pub looks_behind : (p q v w : ℕ) → p ≤ q → v ≤ w → 2 * q + look_limit p v ≤ pattern_look_limit q w
looks_behind p q v w shorter lower =
    let behind : (p + 1) * (v + 1) ≤ (q + 1) * (w + 1) = mul-le-mul {n₁ = p + 1} {m₁ = v + 1} {n₂ = q + 1} {m₂ = w + 1} (omega arith) (omega arith) in
    let front : (q + 1) * 1 ≤ (q + 1) * (w + 1) = mul-le-mul_left {m = 1} {n = w + 1} (q + 1) (omega arith) in
    let small : 8 * (p + 1) * (v + 1) ≡ 8 * ((p + 1) * (v + 1)) = mul_assoc 8 (p + 1) (v + 1) in
    let large : 10 * (q + 1) * (w + 1) ≡ 10 * ((q + 1) * (w + 1)) = mul_assoc 10 (q + 1) (w + 1) in
    omega (arith, behind, front, small, large)
