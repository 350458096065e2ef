-- What holds of two lists, place by place.
use Rattle.std.specs.List.{AllZip}
use Rattle.std.proofs.Common.{List, [], ◌∷◌, ◌++◌}

pub AllZip-more : {A B : Type 0} (R : A → B → Type 0) (xs : List A) (ys : List B) (x : A) (y : B) → AllZip R xs ys → R x y → AllZip R (xs ++ x ∷ []) (ys ++ y ∷ [])
AllZip-more R [] [] x y h r = (r, tt)
AllZip-more R [] (_ ∷ _) x y h r = absurd h
AllZip-more R (_ ∷ _) [] x y h r = absurd h
AllZip-more R (a ∷ xs) (b ∷ ys) x y h r = (h.0, AllZip-more R xs ys x y h.1 r)
