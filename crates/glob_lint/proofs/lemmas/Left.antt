-- Which lines match a path once some are gone: those that are left, each at its new place.
use Rattle.std.proofs.Common.{◌≡◌, ℕ, zero, suc, ◌+◌, Bool, false, List, [], ◌∷◌, Some, refl, sym, ap, subst, ◌∙◌, arith, add-zero, zero-add}
use Rattle.std.specs.Prelude.{◌↔◌, slice_get}
use Rattle.std.proofs.lemmas.Option.{same_Some}
use Rattle.glob_lists.specs.declared.rules.Rules.{Rules}
use Rattle.gix_glob.specs.Entries.{Entry}
use Rattle.gix_glob.specs.EntryLists.{EntryList}
use Rattle.gix_glob.specs.Patterns.{is_negative}
use Rattle.glob_lists.specs.Deciding.{AnswersUnder, IsEntryAt, PairAnswers}
use Rattle.glob_trees.specs.Trees.{IsPositiveAt}
use Rattle.glob_lint.specs.Without.{entries_but, is_among, lists_but}
use Rattle.glob_lint.proofs.lemmas.Ranks.{entry_stays, entry_stood, rank}

module _ {V : Type 0} (gone : List (ℕ × ℕ)) where
  -- what is left of the list at place i
  abbrev pub list_but : ℕ → EntryList V → EntryList V
  list_but i list = record { entries = entries_but (is_among gone i) 0 list.entries; source = list.source; base = list.base }

  list_stays : (lists : List (EntryList V)) (k i : ℕ) (list : EntryList V) → slice_get lists i ≡ Some list → slice_get (lists_but gone k lists) i ≡ Some (list_but (k + i) list)
  list_stays [] k i list there = cc
  list_stays (x ∷ lists) k zero list there =
      subst (λ n. Some (list_but k x) ≡ Some (list_but n list)) (sym (add-zero k)) (ap (λ l. Some (list_but k l)) (same_Some x list there))
  list_stays (x ∷ lists) k (suc i) list there =
      let next : (k + 1) + i ≡ k + suc i = omega arith in
      subst (λ n. slice_get (lists_but gone (k + 1) lists) i ≡ Some (list_but n list)) next (list_stays lists (k + 1) i list there)

  -- the list of which the list at a place is left
  record LeftOf (lists : List (EntryList V)) (k i : ℕ) (left : EntryList V) : Type 0 where
    list : EntryList V
    there : slice_get lists i ≡ Some list
    is : list_but (k + i) list ≡ left

  list_stood : (lists : List (EntryList V)) (k i : ℕ) (left : EntryList V) → slice_get (lists_but gone k lists) i ≡ Some left → LeftOf lists k i left
  list_stood [] k i left found = cc
  list_stood (x ∷ lists) k zero left found = record {
    list = x;
    there = refl;
    is = ap (λ n. list_but n x) (add-zero k) ∙ same_Some (list_but k x) left found;
  }
  list_stood (x ∷ lists) k (suc i) left found =
      let s = list_stood lists (k + 1) i left found in
      let next : k + suc i ≡ (k + 1) + i = omega arith in
      record { list = s.list; there = s.there; is = ap (λ n. list_but n s.list) next ∙ s.is }

-- the sign of a line, by its entry
module _ {V : Type 0} (lists : List (EntryList V)) (pair : ℕ × ℕ) (entry : Entry V) (at : IsEntryAt lists pair entry) where
  pub positive_by_entry : is_negative entry.mode ≡ false → IsPositiveAt lists pair
  positive_by_entry positive = record { list = at.list; of_lists = at.of_lists; entry = entry; of_list = at.of_list; positive = positive }

  pub entry_of_positive : IsPositiveAt lists pair → is_negative entry.mode ≡ false
  entry_of_positive other =
      let list_is : other.list ≡ at.list = same_Some other.list at.list (sym other.of_lists ∙ at.of_lists) in
      let entry_is : other.entry ≡ entry =
      same_Some other.entry entry (sym other.of_list ∙ ap (λ (l : EntryList V). slice_get l.entries pair.1) list_is ∙ at.of_list) in
      sym (ap (λ (e : Entry V). is_negative e.mode) entry_is) ∙ other.positive

module _ {V : Type 0} (lists : List (EntryList V)) (gone : List (ℕ × ℕ)) (path : List ℕ) (is_dir : Bool) (rules : Rules) where
  -- the line at a pair of places matches, and is left at another one
  pub record IsLeft (pair left : ℕ × ℕ) : Type 0 where
    pub list : left.0 ≡ pair.0
    pub place : rank (is_among gone pair.0) 0 pair.1 ≡ left.1
    pub stays : is_among gone pair.0 pair.1 ≡ false
    pub was : PairAnswers lists path is_dir rules pair.0 pair.1
    pub is : PairAnswers (lists_but gone 0 lists) path is_dir rules left.0 left.1
    pub entry : Entry V
    pub old : IsEntryAt lists pair entry
    pub new : IsEntryAt (lists_but gone 0 lists) left entry

  pub sign_stays : (pair left : ℕ × ℕ) → IsLeft pair left → IsPositiveAt lists pair ↔ IsPositiveAt (lists_but gone 0 lists) left
  sign_stays pair left s = (
    λ h. positive_by_entry (lists_but gone 0 lists) left s.entry s.new (entry_of_positive lists pair s.entry s.old h),
    λ h. positive_by_entry lists pair s.entry s.old (entry_of_positive (lists_but gone 0 lists) left s.entry s.new h),
  )

  pub match_stays : (pair : ℕ × ℕ) → PairAnswers lists path is_dir rules pair.0 pair.1 → is_among gone pair.0 pair.1 ≡ false → IsLeft pair (pair.0, rank (is_among gone pair.0) 0 pair.1)
  match_stays pair was stays =
      let i = pair.0 in
      let m = pair.1 in
      let list = was.list in
      let at = was.answers in
      let list_there : slice_get (lists_but gone 0 lists) i ≡ Some (list_but gone i list) =
      subst (λ n. slice_get (lists_but gone 0 lists) i ≡ Some (list_but gone n list)) (zero-add i) (list_stays gone lists 0 i list was.there) in
      let kept : is_among gone i (0 + m) ≡ false = subst (λ n. is_among gone i n ≡ false) (sym (zero-add m)) stays in
      let there = entry_stays (is_among gone i) list.entries 0 m at.entry at.there kept in
      record {
        list = refl;
        place = refl;
        stays = stays;
        was = was;
        is = record { list = list_but gone i list; there = list_there; answers = record { entry = at.entry; there = there; answers = at.answers } };
        entry = at.entry;
        old = record { list = list; of_lists = was.there; of_list = at.there };
        new = record { list = list_but gone i list; of_lists = list_there; of_list = there };
      }

  -- the line that is left at a pair of places
  pub match_stood : (left : ℕ × ℕ) → PairAnswers (lists_but gone 0 lists) path is_dir rules left.0 left.1 → (m : ℕ) × IsLeft (left.0, m) left
  match_stood left is =
      let i = left.0 in
      let n = left.1 in
      let s = list_stood gone lists 0 i is.list is.there in
      let list_is : list_but gone i s.list ≡ is.list = ap (λ k. list_but gone k s.list) (sym (zero-add i)) ∙ s.is in
      let at = is.answers in
      let found : slice_get (entries_but (is_among gone i) 0 s.list.entries) n ≡ Some at.entry =
      ap (λ (l : EntryList V). slice_get l.entries n) list_is ∙ at.there in
      let e = entry_stood (is_among gone i) s.list.entries 0 n at.entry found in
      let base_is : is.list.base ≡ s.list.base = sym (ap (λ (l : EntryList V). l.base) list_is) in (
        e.m,
        record {
          list = refl;
          place = e.is;
          stays = subst (λ k. is_among gone i k ≡ false) (zero-add e.m) e.stays;
          was = record { list = s.list; there = s.there; answers = record { entry = at.entry; there = e.there; answers = subst (λ b. AnswersUnder b at.entry path is_dir rules) base_is at.answers } };
          is = is;
          entry = at.entry;
          old = record { list = s.list; of_lists = s.there; of_list = e.there };
          new = record { list = is.list; of_lists = is.there; of_list = at.there };
        },
      )
