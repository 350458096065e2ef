-- The entries of one list are asked from the last one on: which of them answers, and what that takes.
use Rattle.std.proofs.Common.{◌≡◌, ℕ, ◌+◌, ◌-◌, ◌<◌, ◌≤◌, List, length, Option, None, Some, refl, subst, arith}
use Rattle.std.specs.Prelude.{MatchOption, slice_get}
use Rattle.std.proofs.lemmas.Bool.{cases_eq, cases_lt}
use Rattle.std.proofs.Common.{⊎_elim}
use Rattle.std.proofs.lemmas.List.Sums.{sum_by-take-drop}
use Rattle.std.proofs.lemmas.Option.{slice_get_within}
use Rattle.glob_lists.specs.declared.rules.Rules.{Rules}
use Rattle.gix_glob.specs.Entries.{Entry}
use Rattle.gix_glob.specs.EntryLists.{EntryList}
use Rattle.gix_glob.specs.PatternLimits.{pattern_look_limit, pattern_step_limit}
use Rattle.gix_glob.specs.Steps.{Counts, NeverFall}
use Rattle.gix_glob.specs.Stripping.{strip_looks}
use Rattle.glob_lists.specs.Deciding.{AnswersAt}
use Rattle.glob_lists.specs.Paths.{Path}
use Rattle.glob_lists.specs.Private.Looking.{LooksUpTo}
use Rattle.glob_lists.specs.Private.Lists.Answering.{IsLastMatch, IsNextMatch, NoneAnswers, Spends, SpendsDown}
use Rattle.glob_lists.specs.Private.Asked.{IsLastOfList}
use Rattle.glob_lists.proofs.lemmas.Deciding.Answering.{PairAnswers-only, PairAnswers-yes}
use Rattle.glob_lists.proofs.lemmas.Deciding.DecisionSums.{sum_by-drop-le, sum_by-from}

-- ---- which entry answers

module _ {V : Type 0} (list : EntryList V) (path : Path) (rules : Rules) where
  -- none between some places, and none between the next ones
  pub NoneAnswers-joined : (from middle to : ℕ) → NoneAnswers list path rules from middle → NoneAnswers list path rules middle to → NoneAnswers list path rules from to
  NoneAnswers-joined from middle to low high m above below answers = ⊎_elim
      (λ (before : m < middle). low m above before answers)
      (λ (past : middle ≤ m). high m past below answers)
      (cases_lt m middle)

  -- one entry more doesn't answer
  pub NoneAnswers-less : (from next to : ℕ) → next ≡ from + 1 → ¬ AnswersAt list path.bytes path.is_dir rules from → NoneAnswers list path rules next to → NoneAnswers list path rules from to
  NoneAnswers-less from next to is not later m above below answers = ⊎_elim
      (λ (here : m ≡ from). not (subst (AnswersAt list path.bytes path.is_dir rules) here answers))
      (λ (apart : m ≡ from → ⊥). later m (omega arith) below answers)
      (cases_eq m from)

  -- no entry stands past the last one
  pub NoneAnswers-all : (end : ℕ) → length list.entries ≤ end → NoneAnswers list path rules 0 end → (m : ℕ) → ¬ AnswersAt list path.bytes path.is_dir rules m
  NoneAnswers-all end all none m answers = (let inside = slice_get_within list.entries m answers.entry answers.there in none m (omega arith) (omega arith) answers)

  -- the next entry that answers, looked for from the end on, is the last one
  pub IsLastMatch-next : (passed_from end place : ℕ) → length list.entries ≤ end → IsNextMatch list path rules passed_from end place → IsLastMatch list path rules (Some place)
  IsLastMatch-next passed_from end place all next = (
    next.answers,
    λ m answers.
        let inside = slice_get_within list.entries m answers.entry answers.there in
        let here = next.here in ⊎_elim
        (λ (above : place < m). absurd (next.between m (omega arith) (omega arith) answers))
        (λ (up_to : m ≤ place). up_to)
        (cases_lt place m),
  )

  -- what the next match from the end on is
  pub IsLastMatch-found : (passed_from end : ℕ) (found : Option ℕ) → length list.entries ≤ end → MatchOption found (NoneAnswers list path rules 0 end) (IsNextMatch list path rules passed_from end)
      → IsLastMatch list path rules found
  IsLastMatch-found passed_from end None all none = NoneAnswers-all end all none
  IsLastMatch-found passed_from end (Some place) all next = IsLastMatch-next passed_from end place all next

-- what is said of a list is said of it in its stack
module _ {V : Type 0} (lists : List (EntryList V)) (path : Path) (rules : Rules) (i : ℕ) (list : EntryList V) (there : slice_get lists i ≡ Some list) where
  pub IsLastOfList-at : (found : Option ℕ) → IsLastMatch list path rules found → IsLastOfList lists path rules i found
  IsLastOfList-at None none = λ m answers. none m (PairAnswers-only lists path.bytes path.is_dir rules i m list there answers)
  IsLastOfList-at (Some last) h = (
    PairAnswers-yes lists path.bytes path.is_dir rules i last list there h.0,
    λ m answers. h.1 m (PairAnswers-only lists path.bytes path.is_dir rules i m list there answers),
  )

-- ---- what that takes

module _ {V : Type 0} (list : EntryList V) (v : ℕ) where
  -- so many rows more were passed, and the entry of the last of them may have been asked
  pub SpendsDown-passed : (from middle to : ℕ) (start before after : Counts) → to ≤ middle → SpendsDown list v from middle start before → LooksUpTo before after (middle - to) → SpendsDown list v from to start after
  SpendsDown-passed from middle to start before after low spent looked =
      let steps_less = sum_by-drop-le (λ (entry : Entry V). pattern_step_limit (length entry.text) v) list.entries to middle low in
      let looks_less = sum_by-drop-le (λ (entry : Entry V). pattern_look_limit (length entry.text) v) list.entries to middle low in
      let steps = spent.steps in
      let looks = spent.looks in
      let same = looked.steps in
      let grown = looked.from in
      let most = looked.to in
      record {
        steps = omega arith;
        looks = omega arith;
        grows = (let old = spent.grows in record { steps = (let a = old.steps in omega arith); looks = (let a = old.looks in omega arith) });
      }

  pub SpendsDown-asked : (from middle to : ℕ) (entry : Entry V) (start before met after : Counts) → to < middle → slice_get list.entries to ≡ Some entry → SpendsDown list v from middle start before
      → LooksUpTo before met (middle - to) → NeverFall met after → after.steps ≤ met.steps + pattern_step_limit (length entry.text) v → after.looks ≤ met.looks + pattern_look_limit (length entry.text) v
      → SpendsDown list v from to start after
  SpendsDown-asked from middle to entry start before met after low here spent looked grows one_steps one_looks =
      let steps_less = sum_by-drop-le (λ (entry : Entry V). pattern_step_limit (length entry.text) v) list.entries (to + 1) middle (omega arith) in
      let looks_less = sum_by-drop-le (λ (entry : Entry V). pattern_look_limit (length entry.text) v) list.entries (to + 1) middle (omega arith) in
      let steps_here = sum_by-from (λ (entry : Entry V). pattern_step_limit (length entry.text) v) list.entries to (to + 1) entry refl here in
      let looks_here = sum_by-from (λ (entry : Entry V). pattern_look_limit (length entry.text) v) list.entries to (to + 1) entry refl here in
      let steps = spent.steps in
      let looks = spent.looks in
      let same = looked.steps in
      let grown = looked.from in
      let most = looked.to in
      record {
        steps = omega arith;
        looks = omega arith;
        grows = (
            let old = spent.grows in record {
              steps = (let a = old.steps in let b = grows.steps in omega arith);
              looks = (let a = old.looks in let b = grows.looks in omega arith);
            }
            );
      }

  -- the base was taken off, and entries were asked from the last one on
  pub Spends-down : (from to : ℕ) (start entered after : Counts) → from ≡ length list.entries → LooksUpTo start entered (strip_looks list.base v) → SpendsDown list v from to entered after → Spends list v start after
  Spends-down from to start entered after all looked spent =
      let steps_all = sum_by-take-drop (λ (entry : Entry V). pattern_step_limit (length entry.text) v) list.entries to in
      let looks_all = sum_by-take-drop (λ (entry : Entry V). pattern_look_limit (length entry.text) v) list.entries to in
      let steps = spent.steps in
      let looks = spent.looks in
      let same = looked.steps in
      let grown = looked.from in
      let most = looked.to in
      let old = spent.grows in
      record {
        steps = omega arith;
        looks = omega arith;
        grows = record { steps = (let a = old.steps in omega arith); looks = (let a = old.looks in omega arith) };
      }
