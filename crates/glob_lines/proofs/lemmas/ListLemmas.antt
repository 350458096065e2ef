-- Lists: a fact of each element, and a list that ends in an element.
use Rattle.std.proofs.Common.{◌≢◌, List, [], ◌∷◌, ◌++◌}
use Rattle.std.specs.List.{AllByRecursion}

pub AllByRecursion-append_parts : {X : Type 0} (P : X → Type 0) (xs ys : List X) → AllByRecursion P (xs ++ ys) → AllByRecursion P xs × AllByRecursion P ys
AllByRecursion-append_parts P [] ys h = (tt, h)
AllByRecursion-append_parts P (x ∷ xs) ys h = let parts = AllByRecursion-append_parts P xs ys h.1 in ((h.0, parts.0), parts.1)

pub push_not-nil : {X : Type 0} (xs : List X) (x : X) → [] ≢ xs ++ x ∷ []
push_not-nil [] x e = cc
push_not-nil (y ∷ xs) x e = cc
