-- The last match over a stack of lists, from the last list and its last mapping on.
use Rattle.std.proofs.Common.{◌≡◌, inl, inr, ⊎_elim, ℕ, ◌+◌, ◌≤◌, Bool, List, Option, None, Some, subst, arith}
use Rattle.std.specs.Prelude.{IfSome, MatchOption, slice_get}
use Rattle.std.proofs.lemmas.Bool.{cases_eq}
use Rattle.glob_lists.specs.declared.rules.Rules.{Rules}
use Rattle.glob_lists.specs.Deciding.{AnswersAt, Decides, HasEntryAt, PairAnswers}
use Rattle.gix_glob.specs.EntryLists.{EntryList}
use Rattle.glob_lists.proofs.lemmas.Deciding.Answering.{PairAnswers-only}
use Rattle.glob_lists.proofs.lemmas.Deciding.LastNumbers.{NoneFrom, NoneFrom-all, NoneFrom-last, NoneFrom-less}

-- ---- one list, from its end

module _ {V : Type 0} (list : EntryList V) (path : List ℕ) (is_dir : Bool) (rules : Rules) where
  -- the answer for one list
  abbrev pub LastOf : Option ℕ → Type 0
  LastOf found =
      MatchOption found ((m : ℕ) → ¬ AnswersAt list path is_dir rules m)
      (λ last. AnswersAt list path is_dir rules last × ((m : ℕ) → AnswersAt list path is_dir rules m → m ≤ last))

  pub LastOf-found : (k last : ℕ) → k ≡ last + 1 → NoneFrom (AnswersAt list path is_dir rules) k → AnswersAt list path is_dir rules last → LastOf (Some last)
  LastOf-found k last next later here = (here, NoneFrom-last (AnswersAt list path is_dir rules) k last next later)

-- ---- all lists, from the last

module _ {V : Type 0} (lists : List (EntryList V)) (path : List ℕ) (is_dir : Bool) (rules : Rules) where
  -- an entry of the list at this place answers
  abbrev ListAnswers : ℕ → Type 0
  ListAnswers i = (m : ℕ) × PairAnswers lists path is_dir rules i m

  -- no list at this place or after it has an entry that answers
  abbrev pub NoListFrom : ℕ → Type 0
  NoListFrom k = NoneFrom ListAnswers k

  pub NoListFrom-less : (k j : ℕ) (list : EntryList V) → k ≡ j + 1 → slice_get lists j ≡ Some list → NoListFrom k
      → ((m : ℕ) → ¬ AnswersAt list path is_dir rules m) → NoListFrom j
  NoListFrom-less k j list next there later none =
      NoneFrom-less ListAnswers k j next later (λ h. none h.0 (PairAnswers-only lists path is_dir rules j h.0 list there h.1))

  pub Decides-found : (k j last : ℕ) (list : EntryList V) → k ≡ j + 1 → slice_get lists j ≡ Some list → NoListFrom k
      → LastOf list path is_dir rules (Some last) → Decides lists path is_dir rules (Some (j, last))
  Decides-found k j last list next there later found = record {
    answers = record { list = list; there = there; answers = found.0 };
    last = λ i m h.
        ⊎_elim (λ (same : i ≡ j). inr (same, found.1 m (PairAnswers-only lists path is_dir rules j m list there (subst (λ i. PairAnswers lists path is_dir rules i m) same h))))
        (λ (apart : i ≡ j → ⊥). let low = NoneFrom-last ListAnswers k j next later i (m, h) in inl (omega arith))
        (cases_eq i j);
  }

  pub Decides-none : (k : ℕ) → k ≤ 0 → NoListFrom k → Decides lists path is_dir rules None
  Decides-none k all none i m h = NoneFrom-all ListAnswers k all none i (m, h)

-- what decides stands in the lists
pub Decides-inside : {V : Type 0} (lists : List (EntryList V)) (path : List ℕ) (is_dir : Bool) (rules : Rules) (pair : Option (ℕ × ℕ)) → Decides lists path is_dir rules pair → IfSome pair (HasEntryAt lists)
Decides-inside lists path is_dir rules None none = tt
Decides-inside lists path is_dir rules (Some pair) h =
    let answers = h.answers in
    let at = answers.answers in (at.entry, record { list = answers.list; of_lists = answers.there; of_list = at.there })
