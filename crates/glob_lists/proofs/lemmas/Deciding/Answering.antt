-- Whether an entry answers for a path: a base leaves one rest of the path, whose last part begins at one place.
use Rattle.std.proofs.Common.{◌≡◌, ◌↔◌, IsTrue, inl, inr, ℕ, ◌-◌, ◌≤◌, Bool, true, false, List, length, drop, Option, None, Some, refl, sym, ap, subst, ◌∙◌, drop_at, arith}
use Rattle.std.specs.Prelude.{slice_get}
use Rattle.std.proofs.lemmas.Bool.{cases_lt}
use Rattle.std.proofs.lemmas.Option.{same_Some}
use Rattle.gix_glob.specs.declared.pattern.Case.{Case}
use Rattle.glob_lists.specs.declared.rules.Reading.{Reading}
use Rattle.glob_lists.specs.declared.rules.Reading.TheVariants.{Crate, Git}
use Rattle.glob_lists.specs.declared.rules.Rules.{Rules}
use Rattle.gix_glob.specs.declared.pattern.Mode as pattern
use Rattle.gix_glob.specs.RepositoryPaths.{IsAfterLastSlash, IsBasenameStart}
use Rattle.glob_lists.specs.Deciding.{AnswersAt, AnswersFor, AnswersUnder, PairAnswers}
use Rattle.glob_lists.specs.Rules.{AnswersAs}
use Rattle.gix_glob.specs.EntryLists.{EntryList}
use Rattle.glob_lists.specs.Paths.{Path}
use Rattle.gix_glob.specs.Entries.{Entry}
use Rattle.gix_glob.specs.Stripping.{NothingLeft, RestOf}
use Rattle.gix_glob.proofs.lemmas.Rests.{Rest-front}

-- ---- one rest, and one place in it

rest_once : (case : Case) (base : Option (List ℕ)) (path r s : List ℕ) → RestOf case base path r → RestOf case base path s → r ≡ s
rest_once case None path r s x y = x ∙ sym y
rest_once case (Some base) path r s x y =
    sym (ap (drop (length base)) x.joined ∙ drop_at x.front r (length base) (Rest-front case base path r x))
    ∙ (ap (drop (length base)) y.joined ∙ drop_at y.front s (length base) (Rest-front case base path s y))

not_before : (path : List ℕ) (k l : ℕ) → IsAfterLastSlash path k → IsAfterLastSlash path l → l ≤ k
not_before path k l x y = elim (cases_lt k l) [
  | inl below ↦ absurd (x.last (l - 1) (omega arith) y.after)
  | inr low ↦ low
]

basename_once : (path : List ℕ) (i j : Option ℕ) → IsBasenameStart path i → IsBasenameStart path j → i ≡ j
basename_once path None None x y = refl
basename_once path None (Some l) x y = absurd (x (l - 1) y.after)
basename_once path (Some k) None x y = absurd (y (k - 1) x.after)
basename_once path (Some k) (Some l) x y = ap Some (omega (arith, not_before path k l x y, not_before path l k y x))

-- ---- a pattern and a path

-- an answer that is by the crate's reading or by Git's is by the reading that is asked for
pub AnswersAs-told : (reading : Reading) (as_git : Bool) (text : List ℕ) (mode : pattern.Mode) (path : List ℕ) (start : Option ℕ) (is_dir : Bool) (case : Case) (answer : Bool)
    → (IsTrue as_git ↔ (reading ≡ Git))
    → (as_git ≡ false → IsTrue answer ↔ AnswersAs Crate text mode path start is_dir case)
    → (IsTrue as_git → IsTrue answer ↔ AnswersAs Git text mode path start is_dir case)
    → (IsTrue answer ↔ AnswersAs reading text mode path start is_dir case)
AnswersAs-told Git as_git text mode path start is_dir case answer asked by_crate by_git = by_git (asked.1 refl)
AnswersAs-told Crate false text mode path start is_dir case answer asked by_crate by_git = by_crate refl
AnswersAs-told Crate true text mode path start is_dir case answer asked by_crate by_git = absurd (let clash : Crate ≡ Git = asked.0 refl in cc)

module _ (text : List ℕ) (mode : pattern.Mode) (path : List ℕ) (is_dir : Bool) (rules : Rules) (start : Option ℕ) (basename : IsBasenameStart path start) where
  AnswersFor-only : AnswersFor text mode path is_dir rules → AnswersAs rules.reading text mode path start is_dir rules.case
  AnswersFor-only h =
      subst (λ k. AnswersAs rules.reading text mode path k is_dir rules.case) (basename_once path h.basename_start start h.basename basename) h.answers

  -- what a test of the path with the place of its last part says
  pub AnswersFor-tested : (answer : Bool) → (IsTrue answer ↔ AnswersAs rules.reading text mode path start is_dir rules.case) → (IsTrue answer ↔ AnswersFor text mode path is_dir rules)
  AnswersFor-tested answer told = (
    λ yes. record { basename_start = start; basename = basename; answers = told.0 yes },
    λ h. told.1 (AnswersFor-only h),
  )

-- ---- one entry

module _ {V : Type 0} (base : Option (List ℕ)) (path : List ℕ) (is_dir : Bool) (rules : Rules) (entry : Entry V) (rest : List ℕ) (left : RestOf rules.case base path rest) where
  pub AnswersUnder-yes : AnswersFor entry.text entry.mode rest is_dir rules → AnswersUnder base entry path is_dir rules
  AnswersUnder-yes answers = record { rest = rest; left = left; answers = answers }

  pub AnswersUnder-only : AnswersUnder base entry path is_dir rules → AnswersFor entry.text entry.mode rest is_dir rules
  AnswersUnder-only h =
      subst (λ r. AnswersFor entry.text entry.mode r is_dir rules) (rest_once rules.case base path h.rest rest h.left left) h.answers

  -- what a test of the rest with the parts of the entry's pattern says
  pub AnswersUnder-tested : (text : List ℕ) (mode : pattern.Mode) (rest_is_dir answer : Bool) → text ≡ entry.text → mode ≡ entry.mode → rest_is_dir ≡ is_dir
      → (IsTrue answer ↔ AnswersFor text mode rest rest_is_dir rules) → (IsTrue answer ↔ AnswersUnder base entry path is_dir rules)
  AnswersUnder-tested text mode rest_is_dir answer text_is mode_is dir_is told =
      let here : IsTrue answer ↔ AnswersFor entry.text entry.mode rest is_dir rules = rw text_is at (rw mode_is at (rw dir_is at told)) in
      (λ yes. AnswersUnder-yes (here.0 yes), λ h. here.1 (AnswersUnder-only h))

-- ---- the entry at a place of a list, and the list at a place of a stack

module _ {V : Type 0} (list : EntryList V) (path : List ℕ) (is_dir : Bool) (rules : Rules) (m : ℕ) (entry : Entry V) (here : slice_get list.entries m ≡ Some entry) where
  pub AnswersAt-yes : AnswersUnder list.base entry path is_dir rules → AnswersAt list path is_dir rules m
  AnswersAt-yes answers = record { entry = entry; there = here; answers = answers }

  pub AnswersAt-only : AnswersAt list path is_dir rules m → AnswersUnder list.base entry path is_dir rules
  AnswersAt-only h = subst (λ (e : Entry V). AnswersUnder list.base e path is_dir rules) (same_Some h.entry entry (sym h.there ∙ here)) h.answers

module _ {V : Type 0} (lists : List (EntryList V)) (path : List ℕ) (is_dir : Bool) (rules : Rules) (i m : ℕ) (list : EntryList V) (there : slice_get lists i ≡ Some list) where
  pub PairAnswers-yes : AnswersAt list path is_dir rules m → PairAnswers lists path is_dir rules i m
  PairAnswers-yes answers = record { list = list; there = there; answers = answers }

  pub PairAnswers-only : PairAnswers lists path is_dir rules i m → AnswersAt list path is_dir rules m
  PairAnswers-only h = subst (λ (l : EntryList V). AnswersAt l path is_dir rules m) (same_Some h.list list (sym h.there ∙ there)) h.answers

  -- nothing answers for a path that doesn't begin with the base
  pub PairAnswers-nothing_left : NothingLeft rules.case list.base path → ¬ PairAnswers lists path is_dir rules i m
  PairAnswers-nothing_left none h = (let at = PairAnswers-only h in none at.answers.rest at.answers.left)

-- ---- a pair whose pattern is tested

module _ {V : Type 0} (lists : List (EntryList V)) (rules : Rules) (path : Path) (i m : ℕ) (list : EntryList V) (entry : Entry V) (there : slice_get lists i ≡ Some list)
    (here : slice_get list.entries m ≡ Some entry) where
  -- what is left of the path was tested
  pub asked_rest : (rest : Path) (text : List ℕ) (mode : pattern.Mode) (answer : Bool) → (RestOf rules.case list.base path.bytes rest.bytes × (rest.is_dir ≡ path.is_dir)) → text ≡ entry.text → mode ≡ entry.mode
      → (IsTrue answer ↔ AnswersFor text mode rest.bytes rest.is_dir rules) → (IsTrue answer ↔ PairAnswers lists path.bytes path.is_dir rules i m)
  asked_rest rest text mode answer left text_is mode_is told =
      let under : IsTrue answer ↔ AnswersUnder list.base entry path.bytes path.is_dir rules =
      AnswersUnder-tested list.base path.bytes path.is_dir rules entry rest.bytes left.0 text mode rest.is_dir answer text_is mode_is left.1 told in (
        λ yes. PairAnswers-yes lists path.bytes path.is_dir rules i m list there (AnswersAt-yes list path.bytes path.is_dir rules m entry here (under.0 yes)),
        λ h. under.1 (AnswersAt-only list path.bytes path.is_dir rules m entry here (PairAnswers-only lists path.bytes path.is_dir rules i m list there h)),
      )
