-- What decides in a stack of one list.
use Rattle.std.proofs.Common.{◌≡◌, inl, inr, ℕ, ◌+◌, ◌<◌, ◌≤◌, Bool, List, [], ◌∷◌, Option, None, Some, refl, sym, subst, arith}
use Rattle.std.specs.Prelude.{slice_get}
use Rattle.std.proofs.lemmas.Bool.{cases_lt}
use Rattle.std.proofs.lemmas.Option.{slice_get_within}
use Rattle.glob_lists.specs.declared.rules.Rules.{Rules}
use Rattle.gix_glob.specs.declared.pattern.Mode as pattern
use Rattle.gix_glob.specs.Entries.{Entry}
use Rattle.gix_glob.specs.EntryLists.{EntryList}
use Rattle.gix_glob.specs.Patterns.{IsPattern}
use Rattle.glob_lists.specs.declared.asks.probe.Probe.{Probe}
use Rattle.glob_lists.specs.declared.asks.row.Row.{Row}
use Rattle.glob_lists.specs.Deciding.{AnswersAt, AnswersUnder, Decides, PairAnswers}
use Rattle.glob_lists.specs.Prepared.{AreAsked, IsLawfulEntry, list_without_base}
use Rattle.glob_lists.specs.Private.Asks.Showing.{Shows}
use Rattle.glob_lists.specs.Private.Lists.Walking.{NonePasses}
use Rattle.glob_lists.proofs.lemmas.Asks.PrefilterLemmas.{AnsweringPasses}
use Rattle.glob_lists.proofs.lemmas.Deciding.Answering.{AnswersAt-only, AnswersAt-yes, PairAnswers-only, PairAnswers-yes}
use Rattle.glob_lists.proofs.lemmas.Deciding.LastNumbers.{NoneFrom, NoneFrom-last, NoneFrom-less}
use Rattle.glob_lists.proofs.lemmas.Lists.RowLemmas.{NoneAnswers-passed}

module _ {V : Type 0} (list : EntryList V) (path : List ℕ) (is_dir : Bool) (rules : Rules) where
  -- the only list is the first
  only_list : (i m : ℕ) → PairAnswers (list ∷ []) path is_dir rules i m → (i ≡ 0) × AnswersAt list path is_dir rules m
  only_list i m h =
      let inside : i < 1 = slice_get_within (list ∷ []) i h.list h.there in
      let first : i ≡ 0 = omega arith in
      (first, PairAnswers-only (list ∷ []) path is_dir rules i m list (subst (λ k. slice_get (list ∷ []) k ≡ Some list) (sym first) refl) h)

  pub Decides-one_list : (m : ℕ) → AnswersAt list path is_dir rules m → ((k : ℕ) → AnswersAt list path is_dir rules k → k ≤ m) → Decides (list ∷ []) path is_dir rules (Some (0, m))
  Decides-one_list m answers last = record {
    answers = PairAnswers-yes (list ∷ []) path is_dir rules 0 m list refl answers;
    last = λ i k h. (let only = only_list i k h in inr (only.0, last k only.1));
  }

  pub Decides-no_list : ((k : ℕ) → ¬ AnswersAt list path is_dir rules k) → Decides (list ∷ []) path is_dir rules None
  Decides-no_list none = λ i k h. none k (only_list i k h).1

-- ---- the patterns of a list without a base, from the last one on

module _ (entries : List (Entry (Unit {0}))) (rows : List Row) (asked : AreAsked entries rows) (path : List ℕ) (is_dir : Bool) (rules : Rules) where
  -- rows that don't pass have entries that don't answer
  pub NoneFrom-passed : AnsweringPasses → (probe : Probe) (from to : ℕ) → Shows path probe → NonePasses rows probe from to
      → NoneFrom (AnswersAt (list_without_base entries) path is_dir rules) to → NoneFrom (AnswersAt (list_without_base entries) path is_dir rules) from
  NoneFrom-passed law probe from to shows none later m low h = elim (cases_lt m to) [
    | inr past ↦ later m past h
    | inl before ↦ NoneAnswers-passed (list_without_base entries) rows asked (record { bytes = path; is_dir = is_dir }) rules probe law shows from to none m low before h
  ]

-- a borrowed pattern is lawful where the entry is
pub lawful_view : (entry : Entry (Unit {0})) (text : List ℕ) (mode : pattern.Mode) (place : Option ℕ) → text ≡ entry.text → mode ≡ entry.mode → place ≡ entry.place
    → IsLawfulEntry entry → IsPattern text mode place
lawful_view entry text mode place text_is mode_is place_is lawful = rw text_is (rw mode_is (rw place_is lawful))

module _ (entries : List (Entry (Unit {0}))) (path : List ℕ) (is_dir : Bool) (rules : Rules) (m : ℕ) (entry : Entry (Unit {0})) (here : slice_get entries m ≡ Some entry)
    (later : NoneFrom (AnswersAt (list_without_base entries) path is_dir rules) (m + 1)) where
  pub Decides-here : AnswersUnder None entry path is_dir rules → Decides (list_without_base entries ∷ []) path is_dir rules (Some (0, m))
  Decides-here answers =
      Decides-one_list (list_without_base entries) path is_dir rules m (AnswersAt-yes (list_without_base entries) path is_dir rules m entry here answers)
      (NoneFrom-last (AnswersAt (list_without_base entries) path is_dir rules) (m + 1) m refl later)

  pub NoneFrom-here : ¬ AnswersUnder None entry path is_dir rules → NoneFrom (AnswersAt (list_without_base entries) path is_dir rules) m
  NoneFrom-here refused =
      NoneFrom-less (AnswersAt (list_without_base entries) path is_dir rules) (m + 1) m refl later
      (λ h. refused (AnswersAt-only (list_without_base entries) path is_dir rules m entry here h))
