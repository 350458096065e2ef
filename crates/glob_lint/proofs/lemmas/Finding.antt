-- Something decides about each path, so what follows wherever something does can't fail.
use Rattle.std.proofs.Common.{◌≡◌, ◌⊎◌, inl, inr, ⊎_elim, ℕ, zero, suc, ◌<◌, ◌≤◌, Bool, List, [], ◌∷◌, length, Option, Some, None, sym, subst, ◌∙◌, arith}
use Rattle.std.specs.Prelude.{slice_get}
use Rattle.std.proofs.lemmas.Bool.{cases_lt}
use Rattle.std.proofs.lemmas.Option.{same_Some}
use Rattle.glob_lists.specs.declared.rules.Rules.{Rules}
use Rattle.gix_glob.specs.EntryLists.{EntryList}
use Rattle.glob_lists.specs.Deciding.{Decides, IsLastAnswer, PairAnswers}

-- the last place below a bound at which something holds
pub record IsLast (P : ℕ → Type 0) (bound place : ℕ) : Type 0 where
  pub holds : P place
  pub last : (other : ℕ) → other < bound → P other → other ≤ place

below_or_at : (place bound : ℕ) → place < suc bound → (place < bound) ⊎ (place ≡ bound)
below_or_at place bound less = ⊎_elim (λ (h : place < bound). inl h) (λ (h : bound ≤ place). inr (omega arith)) (cases_lt place bound)

module _ (P : ℕ → Type 0) where
  -- there is none, or a last one
  abbrev pub NoneOrLast : ℕ → Type 0
  NoneOrLast bound = ((place : ℕ) → place < bound → ¬ P place) ⊎ ((place : ℕ) × IsLast P bound place)

  last_here : (bound : ℕ) → P bound → NoneOrLast (suc bound)
  last_here bound here = inr (bound, record { holds = here; last = λ other less h. omega arith })

  last_before : (bound : ℕ) → ¬ P bound → NoneOrLast bound → NoneOrLast (suc bound)
  last_before bound not_here (inl none) = inl (λ place less h. elim (below_or_at place bound less) as (λ _. ⊥) [ inl below ↦ none place below h | inr at ↦ not_here (subst P at h) ])
  last_before bound not_here (inr (place, found)) = inr (
    place,
    record {
      holds = found.holds;
      last = λ other less h. elim (below_or_at other bound less) as (λ _. other ≤ place) [ inl below ↦ found.last other below h | inr at ↦ absurd (not_here (subst P at h)) ];
    },
  )

  pub none_or_last : (bound : ℕ) → ¬ ¬ NoneOrLast bound
  none_or_last zero neither = neither (inl (λ place less h. omega arith))
  none_or_last (suc bound) neither = none_or_last bound (λ before. neither (last_before bound (λ here. neither (last_here bound here)) before))

within : {X : Type 0} (xs : List X) (i : ℕ) (x : X) → slice_get xs i ≡ Some x → i < length xs
within [] i x found = cc
within (y ∷ xs) zero x found = omega arith
within (y ∷ xs) (suc i) x found = let rest : i < length xs = within xs i x found in omega arith

module _ {V : Type 0} (lists : List (EntryList V)) (path : List ℕ) (is_dir : Bool) (rules : Rules) where
  -- a line of the list at this place matches
  abbrev OfList : ℕ → Type 0
  OfList i = (m : ℕ) × PairAnswers lists path is_dir rules i m

  abbrev OfPlace : ℕ → ℕ → Type 0
  OfPlace i m = PairAnswers lists path is_dir rules i m

  within_lists : (i m : ℕ) → PairAnswers lists path is_dir rules i m → i < length lists
  within_lists i m h = within lists i h.list h.there

  -- how many lines the list has in which this line stands
  abbrev size : (i m : ℕ) → PairAnswers lists path is_dir rules i m → ℕ
  size i m h = length h.list.entries

  within_list : (i m n : ℕ) (h : PairAnswers lists path is_dir rules i m) → PairAnswers lists path is_dir rules i n → n < size i m h
  within_list i m n h other =
      let same : other.list ≡ h.list = same_Some other.list h.list (sym other.there ∙ h.there) in
      subst (λ (l : EntryList V). n < length l.entries) same (within other.list.entries n other.answers.entry other.answers.there)

  last_of_all : (i m : ℕ) (h : PairAnswers lists path is_dir rules i m) → IsLast OfList (length lists) i → (n : ℕ) → IsLast (OfPlace i) (size i m h) n → IsLastAnswer lists path is_dir rules (i, n)
  last_of_all i m h lists_last n found = record {
    answers = found.holds;
    last = λ j k other.
        let up_to : j ≤ i = lists_last.last j (within_lists j k other) (k, other) in
        ⊎_elim
        (λ (less : j < i). inl less)
        (λ (from : i ≤ j).
        let same : j ≡ i = omega arith in
        let here : PairAnswers lists path is_dir rules i k = subst (λ l. PairAnswers lists path is_dir rules l k) same other in
        inr (same, found.last k (within_list i m k h here) here))
        (cases_lt j i);
  }

  module _ (nothing : ¬ ((pair : Option (ℕ × ℕ)) × Decides lists path is_dir rules pair)) where
    none_of_list : (i m : ℕ) (h : PairAnswers lists path is_dir rules i m) → IsLast OfList (length lists) i → ¬ NoneOrLast (OfPlace i) (size i m h)
    none_of_list i m h found (inl none) = none m (within_list i m m h h) h
    none_of_list i m h found (inr (n, last)) = nothing (Some (i, n), last_of_all i m h found n last)

    none_of_lists : ¬ NoneOrLast OfList (length lists)
    none_of_lists (inl none) = nothing (None, λ i m h. none i (within_lists i m h) (m, h))
    none_of_lists (inr (i, found)) =
        let some = found.holds in
        none_or_last (OfPlace i) (size i some.0 some.1) (none_of_list i some.0 some.1 found)

  -- it can't be that nothing decides
  pub something_decides : ¬ ¬ ((pair : Option (ℕ × ℕ)) × Decides lists path is_dir rules pair)
  something_decides nothing = none_or_last OfList (length lists) (none_of_lists nothing)
