-- Lines of numbers, one number after the other.
use Rattle.std.proofs.Common.{◌≡◌, inl, inr, ℕ, List, [], ◌∷◌, ◌++◌, refl, sym, ap, ◌∙◌, append_assoc}
use Rattle.std.specs.Prelude.{decimal}
use Rattle.glob_lines.specs.Numbers.{Picks, text_of_numbers}

-- ---- one more element

module _ {X : Type 0} (P : X → Type 0) where
  -- it is picked where P holds
  pub Picks-more : (xs chosen : List X) (x : X) → Picks P xs chosen → P x → Picks P (xs ++ x ∷ []) (chosen ++ x ∷ [])
  Picks-more [] chosen x h p = inl (p, [], ap (λ l. l ++ x ∷ []) h, refl)
  Picks-more (y ∷ xs) chosen x (inl h) p = inl (h.0, h.1 ++ x ∷ [], ap (λ l. l ++ x ∷ []) h.2, Picks-more xs h.1 x h.3 p)
  Picks-more (y ∷ xs) chosen x (inr h) p = inr (h.0, Picks-more xs chosen x h.1 p)

  -- and left out where it doesn't
  pub Picks-skip : (xs chosen : List X) (x : X) → Picks P xs chosen → ¬ P x → Picks P (xs ++ x ∷ []) chosen
  Picks-skip [] chosen x h out = inr (out, h)
  Picks-skip (y ∷ xs) chosen x (inl h) out = inl (h.0, h.1, h.2, Picks-skip xs h.1 x h.3 out)
  Picks-skip (y ∷ xs) chosen x (inr h) out = inr (h.0, Picks-skip xs chosen x h.1 out)

-- ---- one more number

-- what stands before the number that comes after these
abbrev pub separator_after : List ℕ → List ℕ
separator_after [] = []
separator_after (n ∷ numbers) = 32 ∷ []

pub text_of_numbers-more : (numbers : List ℕ) (n : ℕ) → text_of_numbers (numbers ++ n ∷ []) ≡ text_of_numbers numbers ++ (separator_after numbers ++ decimal n)
text_of_numbers-more [] n = refl
text_of_numbers-more (m ∷ []) n = refl
text_of_numbers-more (m ∷ k ∷ numbers) n =
    ap (λ l. decimal m ++ (32 ∷ l)) (text_of_numbers-more (k ∷ numbers) n)
    ∙ sym (append_assoc (decimal m) (32 ∷ text_of_numbers (k ∷ numbers)) (32 ∷ decimal n))
