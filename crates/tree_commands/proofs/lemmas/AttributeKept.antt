-- Lists that are kept by a place, and put back before the last list.
use Rattle.std.proofs.Common.{◌≡◌, ⊎_elim, ℕ, ◌+◌, ◌-◌, ◌≤◌, List, [], ◌∷◌, ◌++◌, length, take, drop, sym, ap, ◌∙◌, append_assoc, length-append, arith}
use Rattle.std.specs.Prelude.{insert, slice_index_or}
use Rattle.std.proofs.Math.Seq.{drop-append_seam, get_or-append_seam, take-append_seam}
use Rattle.glob_trees.proofs.lemmas.WayLemmas.{last_same}
use Rattle.tree_commands.proofs.lemmas.AttributeWalks.{last_cases}

module _ {X : Type 0} where
  -- the last two elements, the first of which is taken out
  pub record TakesOut (xs less : List X) (x : X) : Type 0 where
    pub front : List X
    pub last : X
    pub joined : xs ≡ front ++ x ∷ last ∷ []
    pub left : less ≡ front ++ last ∷ []

  takes_out_at : (xs front : List X) (it last : X) (at : ℕ) (x : X) (less : List X) → xs ≡ (front ++ it ∷ []) ++ last ∷ [] → at ≡ length xs - 2 → x ≡ slice_index_or xs at x → less ≡ take at xs ++ drop (at + 1) xs → TakesOut xs less x
  takes_out_at xs front it last at x less is where_at here left =
      let joined : xs ≡ front ++ it ∷ last ∷ [] = is ∙ append_assoc front (it ∷ []) (last ∷ []) in
      let place : at ≡ length front = omega (arith, where_at, ap length joined, length-append front (it ∷ last ∷ [])) in
      let next : at + 1 ≡ length (front ++ it ∷ []) = omega (arith, place, length-append front (it ∷ [])) in
      let its : x ≡ it = here ∙ ap (λ l. slice_index_or l at x) joined ∙ ap (λ k. slice_index_or (front ++ it ∷ last ∷ []) k x) place ∙ get_or-append_seam front it (last ∷ []) x in
      record {
        front = front;
        last = last;
        joined = joined ∙ ap (λ y. front ++ y ∷ last ∷ []) (sym its);
        left = left
            ∙ ap (λ l. l ++ drop (at + 1) xs) (ap (take at) joined ∙ ap (λ k. take k (front ++ it ∷ last ∷ [])) place ∙ take-append_seam front (it ∷ last ∷ []))
            ∙ ap (λ l. front ++ l) (ap (drop (at + 1)) is ∙ ap (λ k. drop k ((front ++ it ∷ []) ++ last ∷ [])) next ∙ drop-append_seam (front ++ it ∷ []) (last ∷ []));
      }

  pub takes_out : (xs : List X) (at : ℕ) (x : X) (less : List X) → 2 ≤ length xs → at ≡ length xs - 2 → x ≡ slice_index_or xs at x → less ≡ take at xs ++ drop (at + 1) xs → TakesOut xs less x
  takes_out xs at x less many where_at here left = ⊎_elim
      (λ (none : xs ≡ []). absurd (omega (arith, many, ap length none)))
      (λ (some : (init : List X) × (last : X) × (xs ≡ init ++ last ∷ [])). ⊎_elim
      (λ (none : some.0 ≡ []). absurd (omega (arith, many, ap length (some.2 ∙ ap (λ l. l ++ some.1 ∷ []) none))))
      (λ (more : (init : List X) × (last : X) × (some.0 ≡ init ++ last ∷ [])).
      takes_out_at xs more.0 more.1 some.1 at x less (some.2 ∙ ap (λ l. l ++ some.1 ∷ []) more.2) where_at here left)
      (last_cases some.0))
      (last_cases xs)

  -- an element is put before the last one
  pub put_before : (xs front : List X) (last x : X) (at : ℕ) (more : List X) → xs ≡ front ++ last ∷ [] → at ≡ length xs - 1 → more ≡ insert xs at x → more ≡ front ++ x ∷ last ∷ []
  put_before xs front last x at more joined where_at is =
      let place : at ≡ length front = omega (arith, where_at, ap length joined, length-append front (last ∷ [])) in
      is ∙ ap (λ l. insert l at x) joined ∙ ap (λ k. insert (front ++ last ∷ []) k x) place
      ∙ ap (λ l. l ++ x ∷ drop (length front) (front ++ last ∷ [])) (take-append_seam front (last ∷ []))
      ∙ ap (λ l. front ++ x ∷ l) (drop-append_seam front (last ∷ []))

  -- lists that end alike are alike, each at its place
  pub ends_same : (front less : List X) (x last y end : X) → front ++ x ∷ last ∷ [] ≡ (less ++ y ∷ []) ++ end ∷ [] → (front ≡ less) × (x ≡ y) × (last ≡ end)
  ends_same front less x last y end is =
      let outer = last_same (front ++ x ∷ []) (less ++ y ∷ []) last end (append_assoc front (x ∷ []) (last ∷ []) ∙ is) in
      let inner = last_same front less x y outer.0 in
      (inner.0, inner.1, outer.1)
