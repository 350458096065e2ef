-- A list that has lost its entries says nothing, and where nothing is left of a path under its base it said nothing before.
use Rattle.std.proofs.Common.{◌≡◌, ◌⊎◌, inl, inr, ⊎_elim, ℕ, zero, suc, ◌<◌, true, Bool, List, [], ◌∷◌, ◌++◌, length, Option, None, Some, refl, sym, ap, subst, ◌∙◌, append_assoc, length-append, arith}
use Rattle.std.specs.Prelude.{slice_get}
use Rattle.std.proofs.lemmas.Option.{same_Some}
use Rattle.gix_glob.specs.declared.pattern.Case.{Case}
use Rattle.glob_lists.specs.declared.rules.Rules.{Rules}
use Rattle.gix_glob.specs.Bytes.{slash}
use Rattle.gix_glob.specs.Entries.{Entry}
use Rattle.gix_glob.specs.EntryLists.{EntryList}
use Rattle.gix_glob.specs.Stripping.{NothingLeft, RestOf}
use Rattle.gix_glob.proofs.lemmas.Rests.{Rest-front}
use Rattle.glob_lists.specs.Deciding.{Decides, PairAnswers}
use Rattle.glob_trees.specs.Laws.Emptying.{EmptiesList}
use Rattle.glob_trees.specs.Trees.{Ignores, IsAbove, IsPositiveAt}

-- ---- where nothing is left

pub nothing_left_above : (case : Case) (base folder path : List ℕ) → IsAbove folder path → NothingLeft case (Some base) path → NothingLeft case (Some base) folder
nothing_left_above case base folder path above none rest left = none (rest ++ slash ∷ above.0) (record {
  front = left.front;
  joined = above.1 ∙ ap (λ l. l ++ slash ∷ above.0) left.joined ∙ append_assoc left.front rest (slash ∷ above.0);
  same = left.same;
})

-- a base that is longer than the path
pub nothing_left_shorter : (case : Case) (base path : List ℕ) → length path < length base → NothingLeft case (Some base) path
nothing_left_shorter case base path short rest left =
    omega (arith, ap length left.joined, length-append left.front rest, Rest-front case base path rest left)

-- ---- the lists at a place

module _ {V : Type 0} (list emptied : EntryList V) (after : List (EntryList V)) (none : emptied.entries ≡ []) where
  stays : (before : List (EntryList V)) (i m : ℕ) (here : EntryList V) (entry : Entry V) → slice_get (before ++ emptied ∷ after) i ≡ Some here → slice_get here.entries m ≡ Some entry
      → slice_get (before ++ list ∷ after) i ≡ Some here
  stays [] zero m here entry is there =
      let lost : here.entries ≡ [] = ap (λ (l : EntryList V). l.entries) (sym (same_Some emptied here is)) ∙ none in
      absurd (let gone = rw lost at there in cc)
  stays [] (suc i) m here entry is there = is
  stays (b ∷ before) zero m here entry is there = is
  stays (b ∷ before) (suc i) m here entry is there = stays before i m here entry is there

  stays_or_is : (before : List (EntryList V)) (i : ℕ) (here : EntryList V) → slice_get (before ++ list ∷ after) i ≡ Some here
      → (list ≡ here) ⊎ (slice_get (before ++ emptied ∷ after) i ≡ Some here)
  stays_or_is [] zero here is = inl (same_Some list here is)
  stays_or_is [] (suc i) here is = inr is
  stays_or_is (b ∷ before) zero here is = inr is
  stays_or_is (b ∷ before) (suc i) here is = stays_or_is before i here is

module _ {V : Type 0} (lists : List (EntryList V)) (base : List ℕ) (emptied : List (EntryList V)) (e : EmptiesList lists base emptied) where
  abbrev blank : EntryList V
  blank = record { entries = []; source = e.list.source; base = e.list.base }

  stands : (i m : ℕ) (here : EntryList V) (entry : Entry V) → slice_get emptied i ≡ Some here → slice_get here.entries m ≡ Some entry → slice_get lists i ≡ Some here
  stands i m here entry is there =
      subst (λ ls. slice_get ls i ≡ Some here) (sym e.joined)
      (stays e.list blank e.after refl e.before i m here entry (subst (λ ls. slice_get ls i ≡ Some here) e.left is) there)

  stands_or_based : (i : ℕ) (here : EntryList V) → slice_get lists i ≡ Some here → (here.base ≡ Some base) ⊎ (slice_get emptied i ≡ Some here)
  stands_or_based i here is = ⊎_elim
      (λ (same : e.list ≡ here). inl (ap (λ (l : EntryList V). l.base) (sym same) ∙ e.based))
      (λ (other : slice_get (e.before ++ blank ∷ e.after) i ≡ Some here). inr (subst (λ ls. slice_get ls i ≡ Some here) (sym e.left) other))
      (stays_or_is e.list blank e.after refl e.before i here (subst (λ ls. slice_get ls i ≡ Some here) e.joined is))

  -- ---- what answers

  answers_before : (path : List ℕ) (is_dir : Bool) (rules : Rules) (i m : ℕ) → PairAnswers emptied path is_dir rules i m → PairAnswers lists path is_dir rules i m
  answers_before path is_dir rules i m h = record { list = h.list; there = stands i m h.list h.answers.entry h.there h.answers.there; answers = h.answers }

  answers_after : (path : List ℕ) (is_dir : Bool) (rules : Rules) → NothingLeft rules.case (Some base) path → (i m : ℕ) → PairAnswers lists path is_dir rules i m → PairAnswers emptied path is_dir rules i m
  answers_after path is_dir rules none i m h = ⊎_elim
      (λ (based : h.list.base ≡ Some base). absurd (none h.answers.answers.rest (subst (λ b. RestOf rules.case b path h.answers.answers.rest) based h.answers.answers.left)))
      (λ (other : slice_get emptied i ≡ Some h.list). record { list = h.list; there = other; answers = h.answers })
      (stands_or_based i h.list h.there)

  pub decides_before : (path : List ℕ) (is_dir : Bool) (rules : Rules) → NothingLeft rules.case (Some base) path → (pair : Option (ℕ × ℕ)) → Decides emptied path is_dir rules pair → Decides lists path is_dir rules pair
  decides_before path is_dir rules none None h = λ i m answers. h i m (answers_after path is_dir rules none i m answers)
  decides_before path is_dir rules none (Some p) h = record {
    answers = answers_before path is_dir rules p.0 p.1 h.answers;
    last = λ i m answers. h.last i m (answers_after path is_dir rules none i m answers);
  }

  decides_after : (path : List ℕ) (is_dir : Bool) (rules : Rules) → NothingLeft rules.case (Some base) path → (pair : Option (ℕ × ℕ)) → Decides lists path is_dir rules pair → Decides emptied path is_dir rules pair
  decides_after path is_dir rules none None h = λ i m answers. h i m (answers_before path is_dir rules i m answers)
  decides_after path is_dir rules none (Some p) h = record {
    answers = answers_after path is_dir rules none p.0 p.1 h.answers;
    last = λ i m answers. h.last i m (answers_before path is_dir rules i m answers);
  }

  -- ---- what ignores

  positive_before : (pair : ℕ × ℕ) → IsPositiveAt emptied pair → IsPositiveAt lists pair
  positive_before pair h = record {
    list = h.list;
    of_lists = stands pair.0 pair.1 h.list h.entry h.of_lists h.of_list;
    entry = h.entry;
    of_list = h.of_list;
    positive = h.positive;
  }

  positive_after : (pair : ℕ × ℕ) (path : List ℕ) (is_dir : Bool) (rules : Rules) → PairAnswers emptied path is_dir rules pair.0 pair.1 → IsPositiveAt lists pair → IsPositiveAt emptied pair
  positive_after pair path is_dir rules answers h =
      let before = stands pair.0 pair.1 answers.list answers.answers.entry answers.there answers.answers.there in
      record {
        list = h.list;
        of_lists = answers.there ∙ sym before ∙ h.of_lists;
        entry = h.entry;
        of_list = h.of_list;
        positive = h.positive;
      }

  pub ignores_before : (rules : Rules) (folder : List ℕ) → NothingLeft rules.case (Some base) folder → (pair : ℕ × ℕ) → Ignores emptied rules folder pair → Ignores lists rules folder pair
  ignores_before rules folder none pair h = (decides_before folder true rules none (Some pair) h.0, positive_before pair h.1)

  pub ignores_after : (rules : Rules) (folder : List ℕ) → NothingLeft rules.case (Some base) folder → (pair : ℕ × ℕ) → Ignores lists rules folder pair → Ignores emptied rules folder pair
  ignores_after rules folder none pair h =
      let decides = decides_after folder true rules none (Some pair) h.0 in
      (decides, positive_after pair folder true rules decides.answers h.1)
