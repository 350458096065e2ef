-- The last pattern that matches the top, looked for from the last list and its last pattern on.
use Rattle.std.proofs.Common.{◌≡◌, inl, inr, ⊎_elim, ℕ, ◌+◌, ◌≤◌, false, List, [], ◌∷◌, ◌++◌, length, Option, None, Some, IsTrue, refl, sym, ap, subst, ◌∙◌, length-append, arith}
use Rattle.std.specs.Prelude.{MatchOption, slice_get}
use Rattle.std.proofs.lemmas.Bool.{cases_eq}
use Rattle.std.proofs.lemmas.Option.{same_Some}
use Rattle.gix_glob.specs.declared.pattern.Case.{Case}
use Rattle.gix_glob.specs.Entries.{Entry}
use Rattle.gix_glob.specs.EntryLists.{EntryList}
use Rattle.gix_glob.specs.Patterns.{looks_at_name}
use Rattle.gix_glob.specs.Stripping.{RestOf, folding_by}
use Rattle.glob_lists.specs.declared.rules.Rules.{Rules}
use Rattle.glob_lists.specs.Deciding.{AnswersFor}
use Rattle.glob_lists.proofs.lemmas.Deciding.LastNumbers.{NoneFrom, NoneFrom-all, NoneFrom-last, NoneFrom-less}
use Rattle.tree_commands.specs.Tops.{AnswersForTop, DecidesForTop, PairAnswersForTop}
use Rattle.tree_commands.specs.Private.Tops.{IsOfAll}

-- ---- what a base leaves of no bytes

none_of_no_bytes : (xs : List ℕ) → length xs ≡ 0 → xs ≡ []
none_of_no_bytes [] none = refl
none_of_no_bytes (x ∷ xs) none = absurd (omega arith)

left_of_all : (case : Case) (base : Option (List ℕ)) → IsOfAll base → RestOf case base [] []
left_of_all case None all = refl
left_of_all case (Some base) all = record { front = []; joined = refl; same = ap (folding_by case) (sym all) }

rest_is_none : (case : Case) (base : Option (List ℕ)) (rest : List ℕ) → RestOf case base [] rest → rest ≡ []
rest_is_none case None rest left = left
rest_is_none case (Some base) rest left = none_of_no_bytes rest (omega (arith, ap length left.joined, length-append left.front rest))

-- ---- one pattern, and one list from its end

module _ {V : Type 0} (list : EntryList V) (rules : Rules) where
  module _ (m : ℕ) (entry : Entry V) (here : slice_get list.entries m ≡ Some entry) where
    pub for_top-yes : IsOfAll list.base → IsTrue (looks_at_name entry.mode) × AnswersFor entry.text entry.mode [] false rules → AnswersForTop list rules m
    for_top-yes all h = record {
      answers = record {
        entry = entry;
        there = here;
        answers = record { rest = []; left = left_of_all rules.case list.base all; answers = h.1 };
      };
      name = h.0;
    }

    pub for_top-only : AnswersForTop list rules m → IsTrue (looks_at_name entry.mode) × AnswersFor entry.text entry.mode [] false rules
    for_top-only h =
        let own = h.answers.entry in
        let same : own ≡ entry = same_Some own entry (sym h.answers.there ∙ here) in
        let none : h.answers.answers.rest ≡ [] = rest_is_none rules.case list.base h.answers.answers.rest h.answers.answers.left in (
          subst (λ (e : Entry V). IsTrue (looks_at_name e.mode)) same h.name,
          subst (λ (e : Entry V). AnswersFor e.text e.mode [] false rules) same (subst (λ (r : List ℕ). AnswersFor own.text own.mode r false rules) none h.answers.answers.answers),
        )

  -- the answer for one list
  abbrev pub LastForTop : Option ℕ → Type 0
  LastForTop found = MatchOption found ((m : ℕ) → ¬ AnswersForTop list rules m) (λ last. AnswersForTop list rules last × ((m : ℕ) → AnswersForTop list rules m → m ≤ last))

  pub LastForTop-found : (k last : ℕ) → k ≡ last + 1 → NoneFrom (AnswersForTop list rules) k → AnswersForTop list rules last → LastForTop (Some last)
  LastForTop-found k last next later here = (here, NoneFrom-last (AnswersForTop list rules) k last next later)

-- ---- all lists, from the last

module _ {V : Type 0} (lists : List (EntryList V)) (rules : Rules) where
  -- a pattern of the list at this place matches the top
  abbrev ListAnswers : ℕ → Type 0
  ListAnswers i = (m : ℕ) × PairAnswersForTop lists rules i m

  -- none of a list at this place or after it does
  abbrev pub NoListFrom : ℕ → Type 0
  NoListFrom k = NoneFrom ListAnswers k

  pair_only : (i m : ℕ) (list : EntryList V) → slice_get lists i ≡ Some list → PairAnswersForTop lists rules i m → AnswersForTop list rules m
  pair_only i m list there h = subst (λ (l : EntryList V). AnswersForTop l rules m) (same_Some h.list list (sym h.there ∙ there)) h.answers

  pub NoListFrom-less : (k j : ℕ) (list : EntryList V) → k ≡ j + 1 → slice_get lists j ≡ Some list → NoListFrom k → ((m : ℕ) → ¬ AnswersForTop list rules m) → NoListFrom j
  NoListFrom-less k j list next there later none = NoneFrom-less ListAnswers k j next later (λ h. none h.0 (pair_only j h.0 list there h.1))

  pub DecidesForTop-found : (k j last : ℕ) (list : EntryList V) → k ≡ j + 1 → slice_get lists j ≡ Some list → NoListFrom k → LastForTop list rules (Some last) → DecidesForTop lists rules (Some (j, last))
  DecidesForTop-found k j last list next there later found = record {
    answers = record { list = list; there = there; answers = found.0 };
    last = λ i m h.
        ⊎_elim (λ (same : i ≡ j). inr (same, found.1 m (pair_only j m list there (subst (λ i. PairAnswersForTop lists rules i m) same h))))
        (λ (apart : i ≡ j → ⊥). let low = NoneFrom-last ListAnswers k j next later i (m, h) in inl (omega arith))
        (cases_eq i j);
  }

  pub DecidesForTop-none : (k : ℕ) → k ≤ 0 → NoListFrom k → DecidesForTop lists rules None
  DecidesForTop-none k all none i m h = NoneFrom-all ListAnswers k all none i (m, h)
