-- Elements of a list that a function is mapped over.
use Rattle.std.proofs.Common.{◌≡◌, ℕ, ◌<◌, List, length, get_or, map, option_map, Some, refl, sym, ap, subst, ◌∙◌}
use Rattle.std.specs.Prelude.{All, slice_get}
use Rattle.std.proofs.lemmas.List.{get_or-map, length-map}
use Rattle.std.proofs.lemmas.Option.{slice_get-map, slice_get_read, slice_get_within}

module _ {X Y : Type 0} (f : X → Y) where
  pub slice_get-map_at : (xs : List X) (i : ℕ) (x : X) → i < length xs → x ≡ get_or xs i x → slice_get (map f xs) i ≡ Some (f x)
  slice_get-map_at xs i x within is = slice_get-map f xs i ∙ ap (option_map f) (slice_get_read xs (length xs) i x refl within is)

  pub slice_get-map_within : (xs : List X) (i : ℕ) (y : Y) → slice_get (map f xs) i ≡ Some y → i < length xs
  slice_get-map_within xs i y is = subst (λ n. i < n) (length-map xs f) (slice_get_within (map f xs) i y is)

  pub All-map_at : (P : Y → Type 0) (xs : List X) (i : ℕ) (x : X) → All P (map f xs) → i < length xs → x ≡ get_or xs i x → P (f x)
  All-map_at P xs i x all within is =
      subst P (get_or-map f xs i x (f x) within ∙ ap f (sym is)) (all i (f x) (subst (λ n. i < n) (sym (length-map xs f)) within))
