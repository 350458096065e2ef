-- The pairs that match a path are there, whichever they are.
use Rattle.std.proofs.Common.{◌≡◌, inl, ⊎_elim, ℕ, ◌+◌, ◌<◌, ◌≤◌, Bool, IsTrue, true, false, List, [], ◌∷◌, ◌++◌, length, option_map, reverse, Option, None, Some, Vec, refl, sym, ap, ◌∙◌, arith}
use Rattle.std.specs.Prelude.{◌↔◌}
use Rattle.std.specs.List.{flat_map}
use Rattle.std.specs.Option.{ForSome, option_map_or}
use Rattle.std.specs.Vec.{vec_items}
use Rattle.std.specs.declared.alloc.Global.{Global}
use Rattle.std.proofs.lemmas.Bool.{cases_Bool, iff_false}
use Rattle.std.proofs.lemmas.Option.{none-some}
use Rattle.glob_lists.specs.declared.rules.Rules.{Rules}
use Rattle.gix_glob.specs.EntryLists.{EntryList}
use Rattle.gix_glob.specs.Paths.{IsFolder}
use Rattle.gix_glob.specs.Stripping.{NothingLeft, Rest, RestOf}
use Rattle.gix_glob.proofs.lemmas.Rests.{Rest-front}
use Rattle.glob_lists.specs.Deciding.{PairAnswers}
use Rattle.glob_lists.specs.Paths.{Path}
use Rattle.glob_lists.specs.Private.Matching.{AreMatchesUpTo}
use Rattle.glob_lists.proofs.lemmas.Deciding.MatchesUpTo.{matches_all, matches_more, matches_of_list, matches_skip}
use Rattle.glob_attributes.specs.Macros.{Definition}
use Rattle.glob_attributes.specs.States.{Assigned, IsAssigned, Lists, assigned_at}
use Rattle.glob_attributes.proofs.lemmas.LawLemmas.{filled-some}

module _ {V : Type 0} (lists : List (EntryList V)) (path : List ℕ) (is_dir : Bool) (rules : Rules) where
  abbrev pub HasMatches : ℕ → ℕ → Type 0
  HasMatches j n = (found : List (ℕ × ℕ)) × AreMatchesUpTo lists path is_dir rules j n found

  pub none-yet : HasMatches 0 0
  none-yet = (
    [],
    record {
      each = λ x pair got. absurd (none-some pair got);
      before = λ x pair got. absurd (none-some pair got);
      rising = λ x y a b less got_a got_b. absurd (none-some a got_a);
      all = λ i m answers before. ⊎_elim (λ (less : i < 0). absurd (omega (arith, less))) (λ (same : (i ≡ 0) × (m < 0)). absurd (omega (arith, same.1))) before;
    },
  )

  -- one pair more was asked
  pub asked-more : (j n : ℕ) (answer : Bool) → (IsTrue answer ↔ PairAnswers lists path is_dir rules j n) → HasMatches j n → HasMatches j (n + 1)
  asked-more j n answer told h =
      ⊎_elim
      (λ (yes : answer ≡ true). (h.0 ++ (j, n) ∷ [], matches_more lists path is_dir rules j n h.0 (told.0 yes) h.1))
      (λ (no : answer ≡ false). (h.0, matches_skip lists path is_dir rules j n h.0 (iff_false told no) h.1))
      (cases_Bool answer)

  -- no place of the list is left that answers
  pub list-more : (j n : ℕ) → ((m : ℕ) → PairAnswers lists path is_dir rules j m → m < n) → HasMatches j n → HasMatches (j + 1) 0
  list-more j n most h = (h.0, matches_of_list lists path is_dir rules j n h.0 most h.1)

-- ---- a base that may be missing

pub folder-of : (base : Option (Vec ℕ Global)) → ForSome (option_map vec_items base) IsFolder → IsFolder (option_map_or vec_items base [])
folder-of None folder = inl refl
folder-of (Some base) folder = folder base.items refl

empty-front : (front : List ℕ) → length front ≡ 0 → front ≡ []
empty-front [] none = refl
empty-front (b ∷ front) none = absurd (omega (arith, none))

pub rest-of : (rules : Rules) (base : Option (Vec ℕ Global)) (path rest : List ℕ) → Rest rules.case (option_map_or vec_items base []) path rest → RestOf rules.case (option_map vec_items base) path rest
rest-of rules None path rest r = sym (r.joined ∙ ap (λ l. l ++ rest) (empty-front r.front (Rest-front rules.case [] path rest r)))
rest-of rules (Some base) path rest r = r

pub nothing-of : (rules : Rules) (base : Option (Vec ℕ Global)) (path : List ℕ) → NothingLeft rules.case (Some (option_map_or vec_items base [])) path → NothingLeft rules.case (option_map vec_items base) path
nothing-of rules None path none = absurd (none path (record { front = []; joined = refl; same = refl }))
nothing-of rules (Some base) path none = none

-- ---- what is assigned

pub matched-assigned : (lists : Lists) (path : Path) (rules : Rules) (j : ℕ) → length lists ≤ j → HasMatches lists path.bytes path.is_dir rules j 0 → (macros : List Definition)
    → (filled : List Assigned) × IsAssigned lists macros path rules filled
matched-assigned lists path rules j all h macros =
    let row = reverse (flat_map (assigned_at lists) h.0) in
    let filled = filled-some macros row in
    (filled.0, (row, (h.0, matches_all lists path.bytes path.is_dir rules j h.0 all h.1, refl), filled.1))
