-- What is among the elements of a list.
use Rattle.std.proofs.Common.{◌≡◌, ◌⊎◌, inl, inr, ⊎_elim, ℕ, zero, suc, ◌<◌, List, [], ◌∷◌, ◌++◌, length, map, get_or, refl, ap, arith}
use Rattle.std.specs.List.{AllByRecursion, Contains}
use Rattle.tree_commands.specs.Private.Listing.{Among}

module _ {X : Type 0} where
  pub among_left : (xs ys : List X) (x : X) → Among xs x → Among (xs ++ ys) x
  among_left [] ys x h = absurd h
  among_left (y ∷ xs) ys x (inl is) = inl is
  among_left (y ∷ xs) ys x (inr more) = inr (among_left xs ys x more)

  pub among_right : (xs ys : List X) (x : X) → Among ys x → Among (xs ++ ys) x
  among_right [] ys x h = h
  among_right (y ∷ xs) ys x h = inr (among_right xs ys x h)

  pub among_cases : (xs ys : List X) (x : X) → Among (xs ++ ys) x → Among xs x ⊎ Among ys x
  among_cases [] ys x h = inr h
  among_cases (y ∷ xs) ys x (inl is) = inl (inl is)
  among_cases (y ∷ xs) ys x (inr more) = ⊎_elim (λ (h : Among xs x). inl (inr h)) (λ (h : Among ys x). inr h) (among_cases xs ys x more)

  pub among_last : (xs : List X) (x : X) → Among (xs ++ x ∷ []) x
  among_last xs x = among_right xs (x ∷ []) x (inl refl)

  pub of_all : (P : X → Type 0) (xs : List X) → AllByRecursion P xs → (x : X) → Among xs x → P x
  of_all P [] all x h = absurd h
  of_all P (y ∷ xs) all x (inl is) = rw is at all.0
  of_all P (y ∷ xs) all x (inr more) = of_all P xs all.1 x more

  pub all_of : (P : X → Type 0) (xs : List X) → ((x : X) → Among xs x → P x) → AllByRecursion P xs
  all_of P [] each = tt
  all_of P (y ∷ xs) each = (each y (inl refl), all_of P xs (λ x h. each x (inr h)))

  contained : (xs : List X) (x : X) (k : ℕ) → k < length xs → get_or xs k x ≡ x → Among xs x
  contained [] x k less is = absurd (omega arith)
  contained (y ∷ xs) x zero less is = inl is
  contained (y ∷ xs) x (suc k) less is = inr (contained xs x k (omega arith) is)

  pub among_contained : (xs : List X) (x : X) → Contains xs x → Among xs x
  among_contained xs x h = contained xs x h.0 h.1 h.2

  pub contains_among : (xs : List X) (x : X) → Among xs x → Contains xs x
  contains_among [] x h = absurd h
  contains_among (y ∷ xs) x (inl is) = (0, omega arith, is)
  contains_among (y ∷ xs) x (inr more) = let rest = contains_among xs x more in (suc rest.0, omega arith, rest.2)

module _ {X Y : Type 0} (f : X → Y) where
  pub among_map : (xs : List X) (x : X) → Among xs x → Among (map f xs) (f x)
  among_map [] x h = absurd h
  among_map (y ∷ xs) x (inl is) = inl (ap f is)
  among_map (y ∷ xs) x (inr more) = inr (among_map xs x more)

  pub among_mapped : (xs : List X) (y : Y) → Among (map f xs) y → (x : X) × Among xs x × (f x ≡ y)
  among_mapped [] y h = absurd h
  among_mapped (x ∷ xs) y (inl is) = (x, inl refl, is)
  among_mapped (x ∷ xs) y (inr more) = let rest = among_mapped xs y more in (rest.0, inr rest.1, rest.2)
