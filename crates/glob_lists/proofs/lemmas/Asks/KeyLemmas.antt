-- The sets of a path and of its last part.
use Rattle.std.proofs.Common.{◌≡◌, ⊎_elim, ℕ, ◌+◌, ◌-◌, ◌<◌, ◌≤◌, List, get_or, drop, Option, None, Some, sym, ◌∙◌, ap, subst, arith, bit_or, length-drop, length-take}
use Rattle.std.specs.Int.{bit_at}
use Rattle.std.proofs.lemmas.Bool.{cases_lt}
use Rattle.std.proofs.lemmas.List.{drop-drop, get_or-drop, get_or-take}
use Rattle.gix_glob.specs.Bytes.{HasByte, slash}
use Rattle.gix_glob.specs.RepositoryPaths.{IsBasenameStart}
use Rattle.glob_lists.specs.Private.Asks.Literals.{bit_of, pair_of}
use Rattle.glob_lists.specs.Private.Asks.Showing.{HoldsBits, HoldsBytes, HoldsNameBits, front_part, last_part}
use Rattle.glob_lists.proofs.lemmas.Asks.BitLemmas.{HoldsBits-drop, all_pairs_hold, bit_left, bit_right}

-- an end of the path without slash is an end of its last part
pub name_bits : (path : List ℕ) (basename_start : Option ℕ) (set : ℕ) → IsBasenameStart path basename_start → HoldsBits (last_part basename_start path) set → HoldsNameBits path set
name_bits path None set base h at alone = HoldsBits-drop path at set h
name_bits path (Some start) set base h at alone = ⊎_elim
    (λ (before : at < start).
    let some = base.some in
    let slash_there = base.after in
    let within = slash_there.inside in
    let long = length-drop at path in
    let place : at + (start - 1 - at) ≡ start - 1 = omega arith in
    absurd (alone (start - 1 - at) (record { inside = omega arith; is = get_or-drop at path (start - 1 - at) 0 ∙ (ap (λ (k : ℕ). get_or path k 0) place ∙ slash_there.is) })))
    (λ (past : start ≤ at).
    let place : start + (at - start) ≡ at = omega arith in
    let same : drop (at - start) (drop start path) ≡ drop at path = drop-drop (at - start) start path ∙ ap (λ (k : ℕ). drop k path) place in
    subst (λ (xs : List ℕ). HoldsBits xs set) same (HoldsBits-drop (drop start path) (at - start) set h))
    (cases_lt at start)

-- the last part of a path has no slash
bare_part : (path : List ℕ) (start : ℕ) → IsBasenameStart path (Some start) → (m : ℕ) → ¬ HasByte (drop start path) m slash
bare_part path start base m there =
    let long = length-drop start path in
    let within = there.inside in
    base.last (start + m) (omega arith) (record { inside = omega arith; is = sym (get_or-drop start path m 0) ∙ there.is })

path_bytes : (path : List ℕ) (basename_start : Option ℕ) (name front : ℕ) → IsBasenameStart path basename_start → HoldsNameBits path name
    → HoldsBytes (front_part basename_start path) front → HoldsBytes path (bit_or name front)
path_bytes path None name front base h h' j inside some = bit_left name front (bit_of (get_or path j 0)) ((h 0 base).bytes j inside some)
path_bytes path (Some start) name front base h h' j inside some = ⊎_elim
    (λ (before : j < start).
    let long = length-take start path in
    bit_right name front (bit_of (get_or path j 0)) (subst (λ (b : ℕ). 0 < bit_of b → bit_at front (bit_of b) ≡ 1) (get_or-take start path j 0 before) (h' j (omega arith)) some))
    (λ (past : start ≤ j).
    let long = length-drop start path in
    let place : start + (j - start) ≡ j = omega arith in
    let same : get_or (drop start path) (j - start) 0 ≡ get_or path j 0 = get_or-drop start path (j - start) 0 ∙ ap (λ (k : ℕ). get_or path k 0) place in
    bit_left name front (bit_of (get_or path j 0)) (subst (λ (b : ℕ). 0 < bit_of b → bit_at name (bit_of b) ≡ 1) same ((h start (bare_part path start base)).bytes (j - start) (omega arith)) some))
    (cases_lt j start)

-- the sets of the last part and of what stands before it, with all pairs, have the path's
pub path_bits : (path : List ℕ) (basename_start : Option ℕ) (name front : ℕ) → IsBasenameStart path basename_start → HoldsNameBits path name
    → HoldsBytes (front_part basename_start path) front → HoldsBits path (bit_or (bit_or name front) 18446744069414584320)
path_bits path basename_start name front base h h' = record {
  bytes = λ j inside some. bit_left (bit_or name front) 18446744069414584320 (bit_of (get_or path j 0)) (path_bytes path basename_start name front base h h' j inside some);
  pairs = λ j inside. bit_right (bit_or name front) 18446744069414584320 (32 + pair_of (get_or path j 0) (get_or path (j + 1) 0)) (all_pairs_hold _ (omega arith));
}
