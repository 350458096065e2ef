-- The places of folders on the way: there is one list of them, which stays where more is known.
use Rattle.std.proofs.Common.{◌≡◌, ℕ, List, [], ◌∷◌, ◌++◌, Option, Some, sym, ap, subst, ◌∙◌}
use Rattle.std.specs.Prelude.{reverse}
use Rattle.std.proofs.lemmas.List.{reverse-append}
use Rattle.std.proofs.lemmas.Option.{same_Some}
use Rattle.glob_trees.specs.Private.Known.{ArePlaces, name_in}
use Rattle.glob_trees.specs.Ways.{Folder}

pub turned : {X : Type 0} (xs : List X) (x : X) → reverse (xs ++ x ∷ []) ≡ x ∷ reverse xs
turned xs x = reverse-append xs (x ∷ [])

module _ (found : ℕ → List ℕ → Option ℕ) where
  pub places_once : (folders : List Folder) (ps qs : List ℕ) → ArePlaces found folders ps → ArePlaces found folders qs → ps ≡ qs
  places_once [] ps qs a b = absurd a
  places_once (top ∷ []) [] qs a b = absurd a
  places_once (top ∷ []) (p ∷ []) [] a b = absurd b
  places_once (top ∷ []) (p ∷ []) (q ∷ []) a b = ap (λ k. k ∷ []) (a ∙ sym b)
  places_once (top ∷ []) (p ∷ []) (q ∷ r ∷ qs) a b = absurd b
  places_once (top ∷ []) (p ∷ o ∷ ps) qs a b = absurd a
  places_once (f ∷ g ∷ fs) [] qs a b = absurd a
  places_once (f ∷ g ∷ fs) (p ∷ []) qs a b = absurd a
  places_once (f ∷ g ∷ fs) (p ∷ o ∷ ps) [] a b = absurd b
  places_once (f ∷ g ∷ fs) (p ∷ o ∷ ps) (q ∷ []) a b = absurd b
  places_once (f ∷ g ∷ fs) (p ∷ o ∷ ps) (q ∷ r ∷ qs) a b =
      let rest : (o ∷ ps) ≡ (r ∷ qs) = places_once (g ∷ fs) (o ∷ ps) (r ∷ qs) a.1 b.1 in
      let outer : o ≡ r = cc in
      let here : p ≡ q = same_Some p q (sym a.0 ∙ ap (λ k. found k (name_in g f)) outer ∙ b.0) in
      ap (λ k. k ∷ o ∷ ps) here ∙ ap (λ l. q ∷ l) rest

  -- a folder more, in the last one
  pub places_more : (fs : List Folder) (f g : Folder) (ps : List ℕ) (p q : ℕ) → ArePlaces found (reverse (fs ++ f ∷ [])) (reverse (ps ++ p ∷ [])) → found p (name_in f g) ≡ Some q
      → ArePlaces found (reverse ((fs ++ f ∷ []) ++ g ∷ [])) (reverse ((ps ++ p ∷ []) ++ q ∷ []))
  places_more fs f g ps p q there here =
      let folders = turned (fs ++ f ∷ []) g ∙ ap (λ l. g ∷ l) (turned fs f) in
      let places = turned (ps ++ p ∷ []) q ∙ ap (λ l. q ∷ l) (turned ps p) in
      let above : ArePlaces found (f ∷ reverse fs) (p ∷ reverse ps) = subst (ArePlaces found (f ∷ reverse fs)) (turned ps p) (subst (λ l. ArePlaces found l (reverse (ps ++ p ∷ []))) (turned fs f) there) in
      subst (λ l. ArePlaces found l (reverse ((ps ++ p ∷ []) ++ q ∷ []))) (sym folders) (subst (ArePlaces found (g ∷ f ∷ reverse fs)) (sym places) (here, above))

  -- without the last one
  pub places_less : (fs : List Folder) (f g : Folder) (ps : List ℕ) (p q : ℕ) → ArePlaces found (reverse ((fs ++ f ∷ []) ++ g ∷ [])) (reverse ((ps ++ p ∷ []) ++ q ∷ []))
      → (found p (name_in f g) ≡ Some q) × ArePlaces found (reverse (fs ++ f ∷ [])) (reverse (ps ++ p ∷ []))
  places_less fs f g ps p q there =
      let folders = turned (fs ++ f ∷ []) g ∙ ap (λ l. g ∷ l) (turned fs f) in
      let places = turned (ps ++ p ∷ []) q ∙ ap (λ l. q ∷ l) (turned ps p) in
      let both : ArePlaces found (g ∷ f ∷ reverse fs) (q ∷ p ∷ reverse ps) = subst (ArePlaces found (g ∷ f ∷ reverse fs)) places (subst (λ l. ArePlaces found l (reverse ((ps ++ p ∷ []) ++ q ∷ []))) folders there) in
      (both.0, subst (λ l. ArePlaces found l (reverse (ps ++ p ∷ []))) (sym (turned fs f)) (subst (ArePlaces found (f ∷ reverse fs)) (sym (turned ps p)) both.1))

  named_from : (above : List Folder) (f g : Folder) (p : ℕ) (ps qs : List ℕ) → ArePlaces found (f ∷ above) (p ∷ ps) → ArePlaces found (g ∷ f ∷ above) qs → (q : ℕ) × (found p (name_in f g) ≡ Some q)
  named_from above f g p ps [] there longer = absurd longer
  named_from above f g p ps (q ∷ []) there longer = absurd longer
  named_from above f g p ps (q ∷ o ∷ qs) there longer =
      let same : (o ∷ qs) ≡ (p ∷ ps) = places_once (f ∷ above) (o ∷ qs) (p ∷ ps) longer.1 there in
      let outer : o ≡ p = cc in
      (q, subst (λ k. found k (name_in f g) ≡ Some q) outer longer.0)

  -- a folder that has a place is found in the one above it
  pub named : (fs : List Folder) (f g : Folder) (ps : List ℕ) (p : ℕ) (qs : List ℕ) → ArePlaces found (reverse (fs ++ f ∷ [])) (reverse (ps ++ p ∷ [])) → ArePlaces found (reverse ((fs ++ f ∷ []) ++ g ∷ [])) qs
      → (q : ℕ) × (found p (name_in f g) ≡ Some q)
  named fs f g ps p qs there longer =
      named_from (reverse fs) f g p (reverse ps) qs
      (subst (ArePlaces found (f ∷ reverse fs)) (turned ps p) (subst (λ l. ArePlaces found l (reverse (ps ++ p ∷ []))) (turned fs f) there))
      (subst (λ l. ArePlaces found l qs) (turned (fs ++ f ∷ []) g ∙ ap (λ l. g ∷ l) (turned fs f)) longer)

module _ (found more : ℕ → List ℕ → Option ℕ) (stays : (outer : ℕ) (name : List ℕ) (place : ℕ) → found outer name ≡ Some place → more outer name ≡ Some place) where
  pub places_stay : (folders : List Folder) (ps : List ℕ) → ArePlaces found folders ps → ArePlaces more folders ps
  places_stay [] ps a = absurd a
  places_stay (top ∷ []) [] a = absurd a
  places_stay (top ∷ []) (p ∷ []) a = a
  places_stay (top ∷ []) (p ∷ o ∷ ps) a = absurd a
  places_stay (f ∷ g ∷ fs) [] a = absurd a
  places_stay (f ∷ g ∷ fs) (p ∷ []) a = absurd a
  places_stay (f ∷ g ∷ fs) (p ∷ o ∷ ps) a = (stays o (name_in g f) p a.0, places_stay (g ∷ fs) (o ∷ ps) a.1)
