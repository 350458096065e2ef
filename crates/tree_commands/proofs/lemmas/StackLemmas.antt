-- What is pending: paths with counts of lists, of which a later one comes before all that lies below an earlier one.
use Rattle.std.proofs.Common.{◌≡◌, ◌⊎◌, inl, inr, ⊎_elim, ℕ, List, [], ◌∷◌, ◌++◌, refl}
use Rattle.std.specs.List.{AllByRecursion}
use Rattle.tree_commands.specs.Private.Listing.{Among}
use Rattle.tree_commands.specs.Private.UnderWay.{Above, IsStack}
use Rattle.tree_commands.proofs.lemmas.AmongLemmas.{all_of, among_cases, among_left, among_right, of_all}

module _ {X : Type 0} (path : X → List ℕ) (count : X → ℕ) where
  pub stack_append : (xs ys : List X) → IsStack path count xs → IsStack path count ys → ((x y : X) → Among xs x → Among ys y → Above path count x y) → IsStack path count (xs ++ ys)
  stack_append [] ys left right cross = right
  stack_append (x ∷ xs) ys left right cross = (
    all_of (Above path count x) (xs ++ ys) (λ y among. ⊎_elim
        (λ (here : Among xs y). of_all (Above path count x) xs left.0 y here)
        (λ (there : Among ys y). cross x y (inl refl) there)
        (among_cases xs ys y among)),
    stack_append xs ys left.1 right (λ a b one other. cross a b (inr one) other),
  )

  pub stack_front : (xs ys : List X) → IsStack path count (xs ++ ys) → IsStack path count xs
  stack_front [] ys stack = tt
  stack_front (x ∷ xs) ys stack = (
    all_of (Above path count x) xs (λ y here. of_all (Above path count x) (xs ++ ys) stack.0 y (among_left xs ys y here)),
    stack_front xs ys stack.1,
  )

  pub stack_top : (xs : List X) (top : X) → IsStack path count (xs ++ top ∷ []) → (x : X) → Among xs x → Above path count x top
  stack_top [] top stack x h = absurd h
  stack_top (y ∷ xs) top stack x (inl is) = rw is at (of_all (Above path count y) (xs ++ top ∷ []) stack.0 top (among_right xs (top ∷ []) top (inl refl)))
  stack_top (y ∷ xs) top stack x (inr more) = stack_top xs top stack.1 x more
