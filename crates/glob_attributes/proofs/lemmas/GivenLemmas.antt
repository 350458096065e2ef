-- What lists assign to a path, told entry by entry, without their places.
use Rattle.std.proofs.Common.{◌≡◌, ◌⊎◌, inl, inr, ⊎_elim, ℕ, suc, ◌+◌, ◌-◌, ◌≤◌, List, [], ◌∷◌, ◌++◌, reverse, Option, Some, refl, sym, subst, ap, ◌∙◌, append_assoc, arith}
use Rattle.std.specs.Prelude.{slice_get}
use Rattle.std.specs.List.{flat_map}
use Rattle.std.specs.Option.{option_and_then, option_map_or}
use Rattle.std.proofs.lemmas.Option.{none-some, same_Some}
use Rattle.glob_lists.specs.declared.rules.Rules.{Rules}
use Rattle.gix_glob.specs.Entries.{Entry}
use Rattle.gix_glob.specs.EntryLists.{EntryList}
use Rattle.glob_lists.specs.Deciding.{AnswersUnder, PairAnswers}
use Rattle.glob_lists.specs.Paths.{Path}
use Rattle.glob_attributes.specs.States.{Assigned, IsRow, Lists, assigned_at}
use Rattle.glob_attributes.proofs.lemmas.WalkLemmas.{AreFrom, ended, first_answers, from_start, is_here, none_left, none_yet, passed, put, taken_at, unended, unpassed}

module _ (path : Path) (rules : Rules) where
  -- what entries assign under a base, and what lists assign
  abbrev pub EntriesGive : Option (List ℕ) → List (Entry (List Assigned)) → List Assigned → Type 0
  EntriesGive base [] given = given ≡ []
  EntriesGive base (entry ∷ entries) given =
      (AnswersUnder base entry path.bytes path.is_dir rules × ((more : List Assigned) × (given ≡ entry.value ++ more) × EntriesGive base entries more))
      ⊎ ((AnswersUnder base entry path.bytes path.is_dir rules → ⊥) × EntriesGive base entries given)

  abbrev pub ListsGive : Lists → List Assigned → Type 0
  ListsGive [] given = given ≡ []
  ListsGive (list ∷ lists) given =
      (own : List Assigned) × (more : List Assigned) × (given ≡ own ++ more) × EntriesGive list.base list.entries own × ListsGive lists more

-- a list from a place on
abbrev IsRest : {X : Type 0} → List X → ℕ → List X → Type 0
IsRest xs m rest = (k : ℕ) → slice_get xs (m + k) ≡ slice_get rest k

rest-more : {X : Type 0} (xs : List X) (m : ℕ) (x : X) (rest : List X) → IsRest xs m (x ∷ rest) → IsRest xs (suc m) rest
rest-more xs m x rest is k = ap (slice_get xs) (let e : suc m + k ≡ m + suc k = omega arith in e) ∙ is (suc k)

rest-first : {X : Type 0} (xs : List X) (m : ℕ) (x : X) (rest : List X) → IsRest xs m (x ∷ rest) → slice_get xs m ≡ Some x
rest-first xs m x rest is = ap (slice_get xs) (let e : m ≡ m + 0 = omega arith in e) ∙ is 0

rest-all : {X : Type 0} (xs : List X) → IsRest xs 0 xs
rest-all xs k = ap (slice_get xs) (let e : 0 + k ≡ k = omega arith in e)

rest-none : {X : Type 0} (xs : List X) (m n : ℕ) (x : X) → IsRest xs m [] → m ≤ n → slice_get xs n ≡ Some x → ⊥
rest-none xs m n x is le at =
    none-some x (sym (is (n - m)) ∙ ap (slice_get xs) (let e : m + (n - m) ≡ n = omega (arith, le) in e) ∙ at)

module _ (lists : Lists) (path : Path) (rules : Rules) where
  abbrev Answer : ℕ → ℕ → Type 0
  Answer i m = PairAnswers lists path.bytes path.is_dir rules i m

  abbrev gives : List (ℕ × ℕ) → List Assigned
  gives found = flat_map (assigned_at lists) found

  module _ (list : EntryList (List Assigned)) (i : ℕ) (there : slice_get lists i ≡ Some list) where
    answers_here : (m : ℕ) (entry : Entry (List Assigned)) → slice_get list.entries m ≡ Some entry
        → AnswersUnder list.base entry path.bytes path.is_dir rules → Answer i m
    answers_here m entry at h = record { list = list; there = there; answers = record { entry = entry; there = at; answers = h } }

    answers_by : (m : ℕ) (entry : Entry (List Assigned)) → slice_get list.entries m ≡ Some entry
        → Answer i m → AnswersUnder list.base entry path.bytes path.is_dir rules
    answers_by m entry at h =
        let same : h.list ≡ list = same_Some h.list list (sym h.there ∙ there) in
        let its : h.answers.entry ≡ entry =
        same_Some h.answers.entry entry (sym h.answers.there ∙ ap (λ (l : EntryList (List Assigned)). slice_get l.entries m) same ∙ at) in
        subst (λ e. AnswersUnder list.base e path.bytes path.is_dir rules) its
        (subst (λ (l : EntryList (List Assigned)). AnswersUnder l.base h.answers.entry path.bytes path.is_dir rules) same h.answers.answers)

    none_here : (m : ℕ) → IsRest list.entries m [] → (n : ℕ) → m ≤ n → Answer i n → ⊥
    none_here m rest n le h =
        let same : h.list ≡ list = same_Some h.list list (sym h.there ∙ there) in
        rest-none list.entries m n h.answers.entry rest le (sym (ap (λ (l : EntryList (List Assigned)). slice_get l.entries n) same) ∙ h.answers.there)

    value_at : (m : ℕ) (entry : Entry (List Assigned)) → slice_get list.entries m ≡ Some entry → assigned_at lists (i, m) ≡ entry.value
    value_at m entry at =
        ap (λ o. option_map_or (λ (e : Entry (List Assigned)). e.value) (option_and_then (λ (l : EntryList (List Assigned)). slice_get l.entries m) o) []) there
        ∙ ap (λ o. option_map_or (λ (e : Entry (List Assigned)). e.value) o []) at

    grown : (m : ℕ) (entry : Entry (List Assigned)) (found rest : List (ℕ × ℕ)) (own : List Assigned) → slice_get list.entries m ≡ Some entry
        → gives found ≡ own ++ gives rest → gives ((i, m) ∷ found) ≡ (entry.value ++ own) ++ gives rest
    grown m entry found rest own at is =
        ap (λ l. l ++ gives found) (value_at m entry at) ∙ ap (λ l. entry.value ++ l) is ∙ sym (append_assoc entry.value own (gives rest))

    -- ---- from the pairs to what the entries of a list give

    record Down (m : ℕ) (entries : List (Entry (List Assigned))) (found : List (ℕ × ℕ)) : Type 0 where
      pub own : List Assigned
      pub rest : List (ℕ × ℕ)
      pub given : EntriesGive path rules list.base entries own
      pub from : AreFrom Answer (suc i) 0 rest
      pub is : gives found ≡ own ++ gives rest

    down : (entries : List (Entry (List Assigned))) (m : ℕ) → IsRest list.entries m entries
        → (found : List (ℕ × ℕ)) → AreFrom Answer i m found → Down m entries found
    down [] m rest found h = record { own = []; rest = found; given = refl; from = ended Answer i m found (none_here m rest) h; is = refl }
    down (entry ∷ entries) m rest found h =
        let at = rest-first list.entries m entry entries rest in
        let on = rest-more list.entries m entry entries rest in
        ⊎_elim
        (λ here.
        let more = down entries (suc m) on here.0 (taken_at Answer i m found here.0 here.1 h) in
        record {
          own = entry.value ++ more.own;
          rest = more.rest;
          given = inl (answers_by m entry at (first_answers Answer i m found here.0 here.1 h), (more.own, refl, more.given));
          from = more.from;
          is = ap gives here.1 ∙ grown m entry here.0 more.rest more.own at more.is;
        })
        (λ no.
        let more = down entries (suc m) on found (passed Answer i m found no h) in
        record {
          own = more.own;
          rest = more.rest;
          given = inr ((λ its. no (answers_here m entry at its)), more.given);
          from = more.from;
          is = more.is;
        })
        (is_here Answer i m found h)

    -- ---- and back

    record Up (m : ℕ) (own : List Assigned) (rest : List (ℕ × ℕ)) : Type 0 where
      pub found : List (ℕ × ℕ)
      pub from : AreFrom Answer i m found
      pub is : gives found ≡ own ++ gives rest

    up : (entries : List (Entry (List Assigned))) (m : ℕ) → IsRest list.entries m entries → (own : List Assigned) → EntriesGive path rules list.base entries own
        → (rest : List (ℕ × ℕ)) → AreFrom Answer (suc i) 0 rest → Up m own rest
    up [] m is own given rest h = record {
      found = rest;
      from = unended Answer i m rest (none_here m is) h;
      is = ap (λ l. l ++ gives rest) (sym given);
    }
    up (entry ∷ entries) m is own (inl its) rest h =
        let at = rest-first list.entries m entry entries is in
        let more = up entries (suc m) (rest-more list.entries m entry entries is) its.1.0 its.1.2 rest h in
        record {
          found = (i, m) ∷ more.found;
          from = put Answer i m more.found (answers_here m entry at its.0) more.from;
          is = grown m entry more.found rest its.1.0 at more.is ∙ ap (λ l. l ++ gives rest) (sym its.1.1);
        }
    up (entry ∷ entries) m is own (inr its) rest h =
        let at = rest-first list.entries m entry entries is in
        let more = up entries (suc m) (rest-more list.entries m entry entries is) own its.1 rest h in
        record {
          found = more.found;
          from = unpassed Answer i m more.found (λ it. its.0 (answers_by m entry at it)) more.from;
          is = more.is;
        }

  -- ---- list by list

  none_from : (i : ℕ) → IsRest lists i [] → (j n : ℕ) → i ≤ j → Answer j n → ⊥
  none_from i rest j n le h = rest-none lists i j h.list rest le h.there

  down_lists : (more : Lists) (i : ℕ) → IsRest lists i more → (found : List (ℕ × ℕ)) → AreFrom Answer i 0 found → ListsGive path rules more (gives found)
  down_lists [] i rest found h = ap gives (none_left Answer i found (none_from i rest) h)
  down_lists (list ∷ more) i rest found h =
      let first = down list i (rest-first lists i list more rest) list.entries 0 (rest-all list.entries) found h in
      (first.own, gives first.rest, first.is, first.given, down_lists more (suc i) (rest-more lists i list more rest) first.rest first.from)

  record UpLists (i : ℕ) (given : List Assigned) : Type 0 where
    pub found : List (ℕ × ℕ)
    pub from : AreFrom Answer i 0 found
    pub is : gives found ≡ given

  up_lists : (more : Lists) (i : ℕ) → IsRest lists i more → (given : List Assigned) → ListsGive path rules more given → UpLists i given
  up_lists [] i rest given h = record { found = []; from = none_yet Answer i (none_from i rest); is = sym h }
  up_lists (list ∷ more) i rest given h =
      let after = up_lists more (suc i) (rest-more lists i list more rest) h.1 h.4 in
      let all = up list i (rest-first lists i list more rest) list.entries 0 (rest-all list.entries) h.0 h.3 after.found after.from in
      record { found = all.found; from = all.from; is = all.is ∙ ap (λ l. h.0 ++ l) after.is ∙ sym h.2 }

  -- a row is what the lists give, turned around
  pub given-row : (row : List Assigned) → IsRow lists path rules row → (given : List Assigned) × (row ≡ reverse given) × ListsGive path rules lists given
  given-row row h =
      let from : AreFrom Answer 0 0 h.0 = record {
        each = h.1.each;
        rising = h.1.rising;
        later = λ x pair at. from_start pair.0 pair.1;
        all = λ j n after its. h.1.all j n its;
      } in
      (gives h.0, h.2, down_lists lists 0 (rest-all lists) h.0 from)

  pub row-given : (given : List Assigned) → ListsGive path rules lists given → IsRow lists path rules (reverse given)
  row-given given h =
      let all = up_lists lists 0 (rest-all lists) given h in (
        all.found,
        record {
          each = all.from.each;
          rising = all.from.rising;
          all = λ i m its. all.from.all i m (from_start i m) its;
        },
        ap reverse (sym all.is),
      )
