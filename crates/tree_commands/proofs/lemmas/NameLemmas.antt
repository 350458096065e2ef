-- Whether a name is among names that are gone through.
use Rattle.std.proofs.Common.{◌≡◌, ◌⊎◌, ◌↔◌, ⊎_elim, inl, inr, ℕ, zero, suc, Bool, true, ◌||◌, List, [], ◌∷◌, IsTrue, refl, sym, subst, ◌∙◌, arith}
use Rattle.std.specs.List.{Contains}
use Rattle.std.specs.Str.{bytes_eq}
use Rattle.std.proofs.lemmas.Bool.{or_cases, or_left, or_right}
use Rattle.std.proofs.lemmas.Slice.Eq.{bytes_eq-Decides}

-- the name was met, or is among those that are left, exactly if it is among all
abbrev pub IsMetOrLeft : List ℕ → Bool → List (List ℕ) → List (List ℕ) → Type 0
IsMetOrLeft wanted is_met left all = (IsTrue is_met ⊎ Contains left wanted) ↔ Contains all wanted

-- ---- names and one before them

first_or_later : (name wanted : List ℕ) (rest : List (List ℕ)) → Contains (name ∷ rest) wanted → (name ≡ wanted) ⊎ Contains rest wanted
first_or_later name wanted rest (zero, inside, is) = inl is
first_or_later name wanted rest (suc k, inside, is) = inr (k, omega (arith, inside), is)

is_first : (name wanted : List ℕ) (rest : List (List ℕ)) → name ≡ wanted → Contains (name ∷ rest) wanted
is_first name wanted rest same = (0, omega arith, same)

is_later : (name wanted : List ℕ) (rest : List (List ℕ)) → Contains rest wanted → Contains (name ∷ rest) wanted
is_later name wanted rest (k, inside, is) = (suc k, omega (arith, inside), is)

-- ---- along the names

module _ (wanted : List ℕ) where
  pub met_next : (is_met is : Bool) (name : List ℕ) (left rest all : List (List ℕ)) → left ≡ name ∷ rest → IsTrue is ↔ (name ≡ wanted) → IsMetOrLeft wanted is_met left all → IsMetOrLeft wanted (is_met || is) rest all
  met_next is_met is name left rest all first same so_far = (
    ⊎_elim
        (λ met. ⊎_elim (λ before. so_far.0 (inl before)) (λ here. so_far.0 (inr (from_left (is_first name wanted rest (same.0 here))))) (or_cases is_met is met))
        (λ later. so_far.0 (inr (from_left (is_later name wanted rest later)))),
    λ among. ⊎_elim
        (λ before. inl (or_left is_met is before))
        (λ left_there. ⊎_elim (λ here. inl (or_right is_met is (same.1 here))) inr (first_or_later name wanted rest (to_left left_there)))
        (so_far.1 among),
  )
    where
      from_left : Contains (name ∷ rest) wanted → Contains left wanted
      from_left = subst (λ names. Contains names wanted) (sym first)

      to_left : Contains left wanted → Contains (name ∷ rest) wanted
      to_left = subst (λ names. Contains names wanted) first

  pub is_wanted : (is : Bool) (name other : List ℕ) → is ≡ bytes_eq name other → other ≡ wanted → IsTrue is ↔ (name ≡ wanted)
  is_wanted is name other same its =
      let decides = bytes_eq-Decides name other in
      (λ holds. decides.0 (sym same ∙ holds) ∙ its, λ equal. same ∙ decides.1 (equal ∙ sym its))
