-- Elements of a list with one more, and of a list backwards.
use Rattle.std.proofs.Common.{◌≡◌, ◌⊎◌, inl, inr, ⊎_elim, ℕ, ◌+◌, ◌-◌, ◌<◌, List, [], ◌∷◌, ◌++◌, length, get_or, reverse, Some, sym, ◌∙◌, ap, arith, length-append}
use Rattle.std.specs.Prelude.{slice_get}
use Rattle.std.proofs.Math.Seq.{get_or-append_seam}
use Rattle.std.proofs.Math.ListN.{get_or-append}
use Rattle.std.proofs.lemmas.Bool.{cases_eq}
use Rattle.std.proofs.lemmas.List.{get_or-reverse, length-reverse}
use Rattle.std.proofs.lemmas.Option.{get_or_from_slice_get, slice_get-get_or, slice_get_cases, slice_get_within}

module _ {X : Type 0} where
  -- each place inside has its element
  pub slice_get-inside : (xs : List X) (i : ℕ) → i < length xs → (x : X) × (slice_get xs i ≡ Some x)
  slice_get-inside xs i inside = ⊎_elim (λ found. (found.0, found.2)) (λ past. absurd (omega (arith, past.0))) (slice_get_cases xs i).1

  pub slice_get-push_old : (xs : List X) (added : X) (k : ℕ) (x : X) → slice_get xs k ≡ Some x → slice_get (xs ++ added ∷ []) k ≡ Some x
  slice_get-push_old xs added k x got =
      let inside = slice_get_within xs k x got in
      let long : length (xs ++ added ∷ []) ≡ length xs + 1 = length-append xs (added ∷ []) in
      slice_get-get_or (xs ++ added ∷ []) k x (omega arith)
      ∙ ap Some (get_or-append xs (added ∷ []) x k inside ∙ get_or_from_slice_get xs k x x got)

  pub slice_get-push_new : (xs : List X) (added : X) → slice_get (xs ++ added ∷ []) (length xs) ≡ Some added
  slice_get-push_new xs added =
      let long : length (xs ++ added ∷ []) ≡ length xs + 1 = length-append xs (added ∷ []) in
      slice_get-get_or (xs ++ added ∷ []) (length xs) added (omega arith) ∙ ap Some (get_or-append_seam xs added [] added)

  -- what is got from the longer list is the new element, or was there before
  pub slice_get-push_cases : (xs : List X) (added : X) (k : ℕ) (x : X) → slice_get (xs ++ added ∷ []) k ≡ Some x → (slice_get xs k ≡ Some x) ⊎ ((k ≡ length xs) × (x ≡ added))
  slice_get-push_cases xs added k x got =
      let inside = slice_get_within (xs ++ added ∷ []) k x got in
      let long : length (xs ++ added ∷ []) ≡ length xs + 1 = length-append xs (added ∷ []) in
      let value : get_or (xs ++ added ∷ []) k x ≡ x = get_or_from_slice_get (xs ++ added ∷ []) k x x got in ⊎_elim
      (λ (here : k ≡ length xs). inr (here, sym value ∙ (ap (λ (n : ℕ). get_or (xs ++ added ∷ []) n x) here ∙ get_or-append_seam xs added [] x)))
      (λ (before : k ≡ length xs → ⊥).
      let old : k < length xs = omega arith in
      inl (slice_get-get_or xs k x old ∙ ap Some (sym (get_or-append xs (added ∷ []) x k old) ∙ value)))
      (cases_eq k (length xs))

  pub slice_get-reverse : (xs : List X) (k : ℕ) (x : X) → slice_get (reverse xs) k ≡ Some x → slice_get xs (length xs - 1 - k) ≡ Some x
  slice_get-reverse xs k x got =
      let inside = slice_get_within (reverse xs) k x got in
      let long = length-reverse xs in
      slice_get-get_or xs (length xs - 1 - k) x (omega arith)
      ∙ ap Some (sym (get_or-reverse xs k x (omega arith)) ∙ get_or_from_slice_get (reverse xs) k x x got)

  pub slice_get-reverse_back : (xs : List X) (k : ℕ) (x : X) → slice_get xs k ≡ Some x → slice_get (reverse xs) (length xs - 1 - k) ≡ Some x
  slice_get-reverse_back xs k x got =
      let inside = slice_get_within xs k x got in
      let long = length-reverse xs in
      let place : length xs - 1 - (length xs - 1 - k) ≡ k = omega arith in
      slice_get-get_or (reverse xs) (length xs - 1 - k) x (omega arith)
      ∙ ap Some (get_or-reverse xs (length xs - 1 - k) x (omega arith) ∙ (ap (λ (n : ℕ). get_or xs n x) place ∙ get_or_from_slice_get xs k x x got))
