-- Lists that are asked from the last one on: which of them answers, and what that takes.
use Rattle.std.proofs.Common.{◌≡◌, inl, inr, ⊎_elim, ℕ, ◌+◌, ◌≤◌, List, drop, None, Some, refl, subst, arith}
use Rattle.std.specs.Prelude.{slice_get, sum_by}
use Rattle.std.proofs.lemmas.Bool.{cases_eq}
use Rattle.std.proofs.lemmas.List.Sums.{sum_by-take-drop}
use Rattle.glob_lists.specs.declared.rules.Rules.{Rules}
use Rattle.gix_glob.specs.EntryLists.{EntryList}
use Rattle.gix_glob.specs.Steps.{Counts, NeverFall}
use Rattle.glob_lists.specs.Deciding.{Decides, PairAnswers}
use Rattle.glob_lists.specs.DecisionLimits.{list_look_limit, list_step_limit}
use Rattle.glob_lists.specs.Paths.{Path}
use Rattle.glob_lists.specs.Private.Asked.{IsLastOfList, SpendsOnAllWith, SpendsWith}
use Rattle.glob_lists.proofs.lemmas.Deciding.DecidingLemmas.{NoListFrom}
use Rattle.glob_lists.proofs.lemmas.Deciding.DecisionSums.{sum_by-drop-le, sum_by-from}
use Rattle.glob_lists.proofs.lemmas.Deciding.LastNumbers.{NoneFrom-last, NoneFrom-less}

-- The counts rose by at most what the lists from place i on may take, where `more` says how many looks more each takes.
pub record SpendsFromWith {V : Type 0} (lists : List (EntryList V)) (more : EntryList V → ℕ) (v i : ℕ) (before after : Counts) : Type 0 where
  pub steps : after.steps ≤ before.steps + sum_by (λ list. list_step_limit list v) (drop i lists)
  pub looks : after.looks ≤ before.looks + sum_by (λ list. list_look_limit list v) (drop i lists) + sum_by more (drop i lists)
  pub grows : NeverFall before after

module _ {V : Type 0} (lists : List (EntryList V)) (more : EntryList V → ℕ) (v : ℕ) where
  -- a list before those was asked
  pub SpendsFrom-asked : (i reached : ℕ) (list : EntryList V) (before middle after : Counts) → i + 1 ≤ reached → slice_get lists i ≡ Some list → SpendsFromWith lists more v reached before middle
      → SpendsWith list (more list) v middle after → SpendsFromWith lists more v i before after
  SpendsFrom-asked i reached list before middle after low there spent one =
      let steps_here = sum_by-from (λ (l : EntryList V). list_step_limit l v) lists i (i + 1) list refl there in
      let steps_rest = sum_by-drop-le (λ (l : EntryList V). list_step_limit l v) lists (i + 1) reached low in
      let looks_here = sum_by-from (λ (l : EntryList V). list_look_limit l v) lists i (i + 1) list refl there in
      let looks_rest = sum_by-drop-le (λ (l : EntryList V). list_look_limit l v) lists (i + 1) reached low in
      let more_here = sum_by-from more lists i (i + 1) list refl there in
      let more_rest = sum_by-drop-le more lists (i + 1) reached low in
      let steps = spent.steps in
      let looks = spent.looks in
      let more_steps = one.steps in
      let more_looks = one.looks in
      let grown = spent.grows in
      let grows = one.grows in
      record {
        steps = omega arith;
        looks = omega arith;
        grows = record { steps = omega (arith, grown.steps, grows.steps); looks = omega (arith, grown.looks, grows.looks) };
      }

  pub SpendsFrom-all : (i : ℕ) (before after : Counts) → SpendsFromWith lists more v i before after → SpendsOnAllWith lists more v before after
  SpendsFrom-all i before after spent =
      let steps_all = sum_by-take-drop (λ (l : EntryList V). list_step_limit l v) lists i in
      let looks_all = sum_by-take-drop (λ (l : EntryList V). list_look_limit l v) lists i in
      let more_all = sum_by-take-drop more lists i in
      let steps = spent.steps in
      let looks = spent.looks in
      record { steps = omega arith; looks = omega arith; grows = spent.grows }

-- ---- the last list that answers

module _ {V : Type 0} (lists : List (EntryList V)) (path : Path) (rules : Rules) where
  pub NoListFrom-last : (k j : ℕ) → k ≡ j + 1 → NoListFrom lists path.bytes path.is_dir rules k → IsLastOfList lists path rules j None → NoListFrom lists path.bytes path.is_dir rules j
  NoListFrom-last k j next later none = NoneFrom-less (λ (i : ℕ). (m : ℕ) × PairAnswers lists path.bytes path.is_dir rules i m) k j next later (λ h. none h.0 h.1)

  pub Decides-last : (k j last : ℕ) → k ≡ j + 1 → NoListFrom lists path.bytes path.is_dir rules k → IsLastOfList lists path rules j (Some last) → Decides lists path.bytes path.is_dir rules (Some (j, last))
  Decides-last k j last next later found = record {
    answers = found.0;
    last = λ i m h.
        ⊎_elim (λ (same : i ≡ j). inr (same, found.1 m (subst (λ (a : ℕ). PairAnswers lists path.bytes path.is_dir rules a m) same h)))
        (λ (apart : i ≡ j → ⊥). let low = NoneFrom-last (λ (i : ℕ). (m : ℕ) × PairAnswers lists path.bytes path.is_dir rules i m) k j next later i (m, h) in inl (omega arith))
        (cases_eq i j);
  }
