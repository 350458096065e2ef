-- The element that meets a path most strongly, of those that were asked so far.
use Rattle.std.proofs.Common.{◌≡◌, ◌≢◌, ℕ, zero, suc, ◌+◌, ◌<◌, ◌≤◌, List, length, take, get_or, Option, None, Some, refl, sym, ap, ◌∙◌, subst, arith}
use Rattle.std.specs.Prelude.{MatchOption, slice_get}
use Rattle.std.specs.List.{All}
use Rattle.std.proofs.lemmas.List.{take_all}
use Rattle.std.proofs.lemmas.List.Elements.{All-more, All-same, All-weaker}
use Rattle.std.proofs.lemmas.Option.{slice_get-get_or}
use Rattle.pathspecs.specs.declared.manner.Manner.{Manner}
use Rattle.pathspecs.specs.declared.manner.Manner.TheVariants as manner
use Rattle.pathspecs.specs.Elements.{Meets, MeetsBy, PathspecItem}
use Rattle.pathspecs.specs.Lists.{IsWhich, strength}

-- where the element meets the path, its strength is so
abbrev pub IsMetWith : (ℕ → Type 0) → List ℕ → PathspecItem → Type 0
IsMetWith P path item = (way : Manner) → MeetsBy way item path → P (strength item.magic.exclude way)

-- what the strength of an element is
pub record HasStrength (item : PathspecItem) (path : List ℕ) (n : ℕ) : Type 0 where
  pub met : n ≢ 0 → (way : Manner) × MeetsBy way item path × (strength item.magic.exclude way ≡ n)
  pub none : n ≡ 0 → ¬ Meets item path

-- the first of the strongest among those before a place
pub record IsBest (items : List PathspecItem) (path : List ℕ) (i : ℕ) (which : Option ℕ) (greatest : ℕ) : Type 0 where
  pub most : All (IsMetWith (λ n. n ≤ greatest) path) (take i items)
  pub none : greatest ≡ 0 → All (λ item. ¬ Meets item path) (take i items)
  pub found : MatchOption which (greatest ≡ 0) (λ place. (item : PathspecItem) × (way : Manner) × (slice_get items place ≡ Some item) × MeetsBy way item path × (strength item.magic.exclude way ≡ greatest)
      × All (IsMetWith (λ n. n < greatest) path) (take place items))

module _ (item : PathspecItem) (path : List ℕ) where
  one_way : (way other : Manner) → MeetsBy way item path → MeetsBy other item path → way ≡ other
  one_way manner.Exact manner.Exact one two = refl
  one_way manner.Exact manner.Wild one two = absurd (two.2 (λ same. absurd (cc)) one.1)
  one_way manner.Exact manner.Below one two = absurd (two.2 (λ same. absurd (cc)) one.1)
  one_way manner.Wild manner.Exact one two = absurd (one.2 (λ same. absurd (cc)) two.1)
  one_way manner.Wild manner.Wild one two = refl
  one_way manner.Wild manner.Below one two = absurd (one.3 refl two.1)
  one_way manner.Below manner.Exact one two = absurd (one.2 (λ same. absurd (cc)) two.1)
  one_way manner.Below manner.Wild one two = absurd (two.3 refl one.1)
  one_way manner.Below manner.Below one two = refl

  so_strong : (n : ℕ) → HasStrength item path n → IsMetWith (λ m. m ≡ n) path item
  so_strong zero has way met = absurd (has.none refl met.0)
  so_strong (suc n) has way met =
      let own = has.met (λ same. absurd (let e = same in omega (arith, e))) in
      ap (strength item.magic.exclude) (one_way way own.0 met own.1) ∙ own.2

module _ (items : List PathspecItem) (path : List ℕ) where
  pub same_best : (i : ℕ) (which one : Option ℕ) (greatest n : ℕ) → one ≡ which → n ≡ greatest → IsBest items path i which greatest → IsBest items path i one n
  same_best i which one greatest n same as_strong best = subst (λ (w : Option ℕ). IsBest items path i w n) (sym same) (subst (λ (m : ℕ). IsBest items path i which m) (sym as_strong) best)

  module _ (i : ℕ) (which : Option ℕ) (greatest : ℕ) (best : IsBest items path i which greatest) (item : PathspecItem) (low : i < length items) (is : item ≡ get_or items i item) (n : ℕ) (has : HasStrength item path n) where
    here : (P : PathspecItem → Type 0) → P item → All P (take i items) → All P (take (i + 1) items)
    here P so before = All-more P items i item low before (subst P is so)

    pub stays : n ≤ greatest → IsBest items path (i + 1) which greatest
    stays weak = record {
      most = here (IsMetWith (λ m. m ≤ greatest) path) (λ way met. let e = so_strong item path n has way met in omega (arith, e, weak)) best.most;
      none = λ zero_is. here (λ other. ¬ Meets other path) (has.none (omega (arith, weak, zero_is))) (best.none zero_is);
      found = best.found;
    }

    pub gives_way : greatest < n → IsBest items path (i + 1) (Some i) n
    gives_way strong =
        let own = has.met (λ same. absurd (omega (arith, strong, same))) in
        record {
          most = here (IsMetWith (λ m. m ≤ n) path) (λ way met. let e = so_strong item path n has way met in omega (arith, e))
              (All-weaker (IsMetWith (λ m. m ≤ greatest) path) (IsMetWith (λ m. m ≤ n) path) (λ other less way met. let e = less way met in omega (arith, e, strong)) (take i items) best.most);
          none = λ zero_is. absurd (omega (arith, strong, zero_is));
          found = (
            item,
            own.0,
            slice_get-get_or items i item low ∙ ap Some (sym is),
            own.1,
            own.2,
            All-weaker (IsMetWith (λ m. m ≤ greatest) path) (IsMetWith (λ m. m < n) path) (λ other less way met. let e = less way met in omega (arith, e, strong)) (take i items) best.most,
          );
        }

  whole : (P : PathspecItem → Type 0) (i : ℕ) → length items ≤ i → All P (take i items) → All P items
  whole P i all so = All-same P items (take i items) (sym (take_all i items all)) so

  pub is_which : (i : ℕ) (which : Option ℕ) (greatest : ℕ) (seen : List PathspecItem) → seen ≡ items → length items ≤ i → IsBest items path i which greatest → MatchOption which (All (λ item. ¬ Meets item path) seen) (IsWhich seen path)
  is_which i None greatest seen same all best = subst (All (λ item. ¬ Meets item path)) (sym same) (whole (λ item. ¬ Meets item path) i all (best.none best.found))
  is_which i (Some place) greatest seen same all best =
      let found = best.found in
      subst (λ (xs : List PathspecItem). IsWhich xs path place) (sym same) (
        found.0,
        found.1,
        found.2,
        found.3,
        subst (λ (m : ℕ). All (IsMetWith (λ n. n ≤ m) path) items) (sym found.4) (whole (IsMetWith (λ n. n ≤ greatest) path) i all best.most),
        subst (λ (m : ℕ). All (IsMetWith (λ n. n < m) path) (take place items)) (sym found.4) found.5,
      )
