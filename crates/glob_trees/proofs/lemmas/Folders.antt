-- The folders above a path: one before each of its slashes.
use Rattle.std.proofs.Common.{◌≡◌, ℕ, suc, ◌<◌, List, [], ◌∷◌, ◌++◌, length, slice_index, take, drop, sym, ap, subst, ◌∙◌, append_assoc, length-append, arith}
use Rattle.std.proofs.Math.Seq.{get_or-append_seam, split_at, take-append_seam}
use Rattle.gix_glob.specs.Bytes.{HasByte, slash}
use Rattle.glob_trees.specs.Trees.{IsAbove}

-- ---- folders and slashes

pub above_slash : (path : List ℕ) (place : ℕ) → HasByte path place slash → IsAbove (take place path) path
above_slash path place here =
    (drop (suc place) path, rw here.is at (split_at path place 0 here.inside))

pub slash_below : (folder path : List ℕ) → IsAbove folder path → HasByte path (length folder) slash
slash_below folder path above = record {
  inside = omega (arith, ap length above.1, length-append folder (slash ∷ above.0));
  is = subst (λ l. slice_index l (length folder) ≡ slash) (sym above.1) (get_or-append_seam folder slash above.0 0);
}

pub above_is_front : (folder path : List ℕ) → IsAbove folder path → folder ≡ take (length folder) path
above_is_front folder path above = sym (ap (take (length folder)) above.1 ∙ take-append_seam folder (slash ∷ above.0))

pub above_is_shorter : (folder path : List ℕ) → IsAbove folder path → length folder < length path
above_is_shorter folder path above = let h = slash_below folder path above in h.inside

-- ---- folders above one path

pub above_above : (top folder path : List ℕ) → IsAbove top folder → IsAbove folder path → IsAbove top path
above_above top folder path high low =
    (high.0 ++ slash ∷ low.0, low.1 ∙ ap (λ l. l ++ slash ∷ low.0) high.1 ∙ append_assoc top (slash ∷ high.0) (slash ∷ low.0))

-- of two fronts, the shorter one is above the longer one
fronts : (top folder x y : List ℕ) → top ++ slash ∷ x ≡ folder ++ slash ∷ y → length top < length folder → IsAbove top folder
fronts [] [] x y same less = absurd (omega arith)
fronts [] (b ∷ folder) x y same less = (folder, cc)
fronts (a ∷ top) [] x y same less = absurd (omega arith)
fronts (a ∷ top) (b ∷ folder) x y same less =
    let tails : top ++ slash ∷ x ≡ folder ++ slash ∷ y = cc in
    let rest = fronts top folder x y tails (omega arith) in
    let heads : a ≡ b = cc in
    (rest.0, cc)

pub shorter_is_above : (top folder path : List ℕ) → IsAbove top path → IsAbove folder path → length top < length folder → IsAbove top folder
shorter_is_above top folder path high low less = fronts top folder high.0 low.0 (sym high.1 ∙ low.1) less

pub as_long_is_same : (top folder path : List ℕ) → IsAbove top path → IsAbove folder path → length top ≡ length folder → top ≡ folder
as_long_is_same top folder path high low level =
    above_is_front top path high ∙ ap (λ n. take n path) level ∙ sym (above_is_front folder path low)
