-- What the lists of a call begin with, as they are gone through.
use Rattle.std.proofs.Common.{◌≡◌, ℕ, ◌+◌, ◌<◌, ◌≤◌, List, [], ◌∷◌, ◌++◌, length, take, drop, get_or, refl, sym, ap, ◌∙◌, slice_index_or, length-drop, take-append-drop, arith}
use Rattle.std.specs.List.{flat_map}
use Rattle.std.proofs.lemmas.Grind.{flat_map-append}
use Rattle.std.proofs.lemmas.List.{get_or-drop}

-- what is not empty begins with something
pub begins_so : {Y : Type 0} (ys : List Y) (d : Y) → 1 ≤ length ys → (rest : List Y) × (ys ≡ get_or ys 0 d ∷ rest)
begins_so [] d some = absurd (omega arith)
begins_so (y ∷ ys) d some = (ys, refl)

module _ {X Y : Type 0} (f : X → List Y) where
  head_gives : (xs : List X) (d : X) (y : Y) (ys : List Y) → 0 < length xs → f (get_or xs 0 d) ≡ y ∷ ys → (rest : List Y) × (flat_map f xs ≡ y ∷ rest)
  head_gives [] d y ys some gives = absurd (omega arith)
  head_gives (x ∷ xs) d y ys some gives = (ys ++ flat_map f xs, ap (λ (l : List Y). l ++ flat_map f xs) gives)

  module _ (xs : List X) (i : ℕ) (before : flat_map f (take i xs) ≡ []) where
    -- what comes before gives nothing, so all is given by what is left
    left_gives : flat_map f xs ≡ flat_map f (drop i xs)
    left_gives =
        ap (flat_map f) (sym (take-append-drop i xs))
        ∙ (flat_map-append f (take i xs) (drop i xs)
        ∙ ap (λ (l : List Y). l ++ flat_map f (drop i xs)) before)

    module _ (d : X) (within : i < length xs) where
      pub first_given : (y : Y) (ys : List Y) → f (slice_index_or xs i d) ≡ y ∷ ys → (rest : List Y) × (flat_map f xs ≡ y ∷ rest)
      first_given y ys gives =
          let same : i + 0 ≡ i = omega arith in
          let left = head_gives (drop i xs) d y ys (omega (arith, length-drop i xs, within)) (ap f (get_or-drop i xs 0 d ∙ ap (λ n. get_or xs n d) same) ∙ gives) in
          (left.0, left_gives ∙ left.1)
