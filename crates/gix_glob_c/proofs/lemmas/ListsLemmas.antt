-- A list that C hands over, under its base.
use Rattle.std.proofs.Common.{◌≡◌, ⊎_elim, ℕ, ◌<◌, ◌≤◌, Bool, true, false, List, [], ◌∷◌, length, map, option_map, Option, None, Some, refl, sym, ap, subst, ◌∙◌, slice_index_or, arith}
use Rattle.std.specs.Prelude.{slice_get}
use Rattle.std.proofs.lemmas.Bool.{cases_Bool}
use Rattle.std.proofs.lemmas.Option.{same_Some, slice_get-get_or, slice_get-map, slice_get_within}
use Rattle.glob_lists.specs.declared.rules.Rules.{Rules}
use Rattle.gix_glob.specs.Stripping.{NothingLeft, Rest, folding_by}
use Rattle.gix_glob.specs.Entries.{Entry}
use Rattle.gix_glob.specs.EntryLists.{EntryList}
use Rattle.gix_glob.proofs.lemmas.Elements.{slice_get-map_within}
use Rattle.glob_lists.specs.Deciding.{AnswersAt, AnswersFor, Decides, HasEntryAt, IsEntryAt}
use Rattle.glob_lists.proofs.lemmas.Deciding.Answering.{AnswersUnder-only, PairAnswers-only, PairAnswers-yes}
use Rattle.glob_lists.proofs.lemmas.Deciding.DecidingLemmas.{LastOf}
use Rattle.gix_glob_c.specs.declared.lists.GlobList.{GlobList}
use Rattle.gix_glob_c.specs.Lists.{HasPatternAt, entry_list, names_folder, patterns_of}
use Rattle.gix_glob_c.specs.Parsed.{entry_of_parts, list_of}
use Rattle.gix_glob_c.specs.declared.parsed.GlobPattern.{GlobPattern}
use Rattle.gix_glob_c.proofs.lemmas.DecidingLemmas.{Decides-no_list, Decides-one_list, blank, entry_at}

-- what the reading of a list takes where there is none
abbrev pub blank_list : GlobList
blank_list = record {
  patterns = record { ref_ptr = (0, 0); now = [] };
  base = record { ref_ptr = (0, 0); now = [] };
  rows = record { ref_ptr = (0, 0); now = [] };
  heads = record { ref_ptr = (0, 0); now = [] };
}

-- the list at a place, as plain data
pub entry_list_at : (lists : List GlobList) (i : ℕ) → i < length lists → slice_get (map entry_list lists) i ≡ Some (entry_list (slice_index_or lists i blank_list))
entry_list_at lists i within = slice_get-map entry_list lists i ∙ ap (option_map entry_list) (slice_get-get_or lists i blank_list within)

-- ---- whether a list says something

-- a list of a folder has all its patterns, and another one has none
pub patterns_all : (list : GlobList) → names_folder list.base.now ≡ true → patterns_of list ≡ list.patterns.now
patterns_all list folder = rw folder refl

patterns_none : (list : GlobList) → names_folder list.base.now ≡ false → patterns_of list ≡ []
patterns_none list other = rw other refl

is_of_folder : (list : GlobList) (m : ℕ) → m < length (patterns_of list) → names_folder list.base.now ≡ true
is_of_folder list m inside =
    ⊎_elim
    (λ (folder : names_folder list.base.now ≡ true). folder)
    (λ (other : names_folder list.base.now ≡ false). absurd (let none = ap length (patterns_none list other) in omega (arith, none, inside)))
    (cases_Bool (names_folder list.base.now))

pub no_folder_answers : (list : GlobList) (path : List ℕ) (is_dir : Bool) (rules : Rules) → names_folder list.base.now ≡ false → (m : ℕ) → ¬ AnswersAt (entry_list list) path is_dir rules m
no_folder_answers list path is_dir rules other m h =
    let inside = slice_get_within (map entry_of_parts (patterns_of list)) m h.entry h.there in
    let none = ap (λ (ps : List GlobPattern). length (map entry_of_parts ps)) (patterns_none list other) in
    absurd (omega (arith, inside, none))

-- a pattern that stands in a list of a folder is one of the entries
pub has_entry : (lists : List GlobList) (i m : ℕ) → i < length lists → names_folder (slice_index_or lists i blank_list).base.now ≡ true
    → m < length (slice_index_or lists i blank_list).patterns.now → HasEntryAt (map entry_list lists) (i, m)
has_entry lists i m within folder inside =
    let list = slice_index_or lists i blank_list in (
      entry_of_parts (slice_index_or list.patterns.now m blank),
      record {
        list = entry_list list;
        of_lists = entry_list_at lists i within;
        of_list = subst (λ (ps : List GlobPattern). slice_get (map entry_of_parts ps) m ≡ Some (entry_of_parts (slice_index_or list.patterns.now m blank))) (sym (patterns_all list folder))
            (entry_at list.patterns.now m inside);
      },
    )

-- the pattern of an entry, and where it stands
module _ (lists : List GlobList) (pair : ℕ × ℕ) (entry : Entry (Unit {0})) (h : IsEntryAt (map entry_list lists) pair entry) where
  pub list_within : pair.0 < length lists
  list_within = slice_get-map_within entry_list lists pair.0 h.list h.of_lists

  abbrev held_list : GlobList
  held_list = slice_index_or lists pair.0 blank_list

  held_entry : slice_get (map entry_of_parts (patterns_of held_list)) pair.1 ≡ Some entry
  held_entry =
      subst (λ (l : EntryList (Unit {0})). slice_get l.entries pair.1 ≡ Some entry)
      (same_Some h.list (entry_list held_list) (sym h.of_lists ∙ entry_list_at lists pair.0 list_within)) h.of_list

  held_all : patterns_of held_list ≡ held_list.patterns.now
  held_all = patterns_all held_list (is_of_folder held_list pair.1 (slice_get-map_within entry_of_parts (patterns_of held_list) pair.1 entry held_entry))

  held_there : slice_get (map entry_of_parts held_list.patterns.now) pair.1 ≡ Some entry
  held_there = subst (λ (ps : List GlobPattern). slice_get (map entry_of_parts ps) pair.1 ≡ Some entry) held_all held_entry

  pub pattern_within : pair.1 < length (slice_index_or lists pair.0 blank_list).patterns.now
  pattern_within = slice_get-map_within entry_of_parts held_list.patterns.now pair.1 entry held_there

  pub entry_is : entry ≡ entry_of_parts (slice_index_or (slice_index_or lists pair.0 blank_list).patterns.now pair.1 blank)
  entry_is = same_Some entry _ (sym held_there ∙ entry_at held_list.patterns.now pair.1 pattern_within)

pub has_pattern : (lists : List GlobList) (pair : ℕ × ℕ) → HasEntryAt (map entry_list lists) pair → HasPatternAt lists pair
has_pattern lists pair h = record {
  list = slice_index_or lists pair.0 blank_list;
  of_lists = slice_get-get_or lists pair.0 blank_list (list_within lists pair h.0 h.1);
  of_list = pattern_within lists pair h.0 h.1;
}

-- ---- what a base leaves

pub nothing_under : (list : GlobList) (path : List ℕ) (is_dir : Bool) (rules : Rules) → NothingLeft rules.case (Some list.base.now) path → (m : ℕ) → ¬ AnswersAt (entry_list list) path is_dir rules m
nothing_under list path is_dir rules none m h = none h.answers.rest h.answers.left

module _ (list : GlobList) (path rest : List ℕ) (is_dir : Bool) (rules : Rules) (folder : names_folder list.base.now ≡ true) (left : Rest rules.case list.base.now path rest) where
  -- what answers for the rest answers under the base
  below : (m : ℕ) → AnswersAt (list_of list.patterns.now) rest is_dir rules m → AnswersAt (entry_list list) path is_dir rules m
  below m h = record {
    entry = h.entry;
    there = subst (λ (ps : List GlobPattern). slice_get (map entry_of_parts ps) m ≡ Some h.entry) (sym (patterns_all list folder)) h.there;
    answers = record {
      rest = rest;
      left = left;
      answers = subst (λ r. AnswersFor h.entry.text h.entry.mode r is_dir rules) h.answers.left h.answers.answers;
    };
  }

  whole : (m : ℕ) → AnswersAt (entry_list list) path is_dir rules m → AnswersAt (list_of list.patterns.now) rest is_dir rules m
  whole m h = record {
    entry = h.entry;
    there = subst (λ (ps : List GlobPattern). slice_get (map entry_of_parts ps) m ≡ Some h.entry) (patterns_all list folder) h.there;
    answers = record { rest = rest; left = refl; answers = AnswersUnder-only (Some list.base.now) path is_dir rules h.entry rest left h.answers };
  }

  pub last_under : (found : Option ℕ) → Decides (list_of list.patterns.now ∷ []) rest is_dir rules (option_map (λ (index : ℕ). (0, index)) found)
      → LastOf (entry_list list) path is_dir rules found
  last_under None h = λ m answers. h 0 m (PairAnswers-yes (list_of list.patterns.now ∷ []) rest is_dir rules 0 m (list_of list.patterns.now) refl (whole m answers))
  last_under (Some k) h = (
    below k (PairAnswers-only (list_of list.patterns.now ∷ []) rest is_dir rules 0 k (list_of list.patterns.now) refl h.answers),
    λ m answers. ⊎_elim
        (λ (before : 0 < 0). absurd (omega arith))
        (λ (level : (0 ≡ 0) × (m ≤ k)). level.1)
        (h.last 0 m (PairAnswers-yes (list_of list.patterns.now ∷ []) rest is_dir rules 0 m (list_of list.patterns.now) refl (whole m answers))),
  )

-- an empty base leaves the path as it is
pub last_of_whole : (list : GlobList) (path : List ℕ) (is_dir : Bool) (rules : Rules) (found : Option ℕ) → list.base.now ≡ []
    → Decides (list_of list.patterns.now ∷ []) path is_dir rules (option_map (λ (index : ℕ). (0, index)) found) → LastOf (entry_list list) path is_dir rules found
last_of_whole list path is_dir rules found empty =
    last_under list path path is_dir rules (ap names_folder empty) (record { front = []; joined = refl; same = sym (ap (folding_by rules.case) empty) }) found

-- what decides in a stack of one list, by the answer for that list
pub Decides-by_list : (list : GlobList) (path : List ℕ) (is_dir : Bool) (rules : Rules) (found : Option ℕ) → LastOf (entry_list list) path is_dir rules found
    → Decides (entry_list list ∷ []) path is_dir rules (option_map (λ (index : ℕ). (0, index)) found)
Decides-by_list list path is_dir rules None none = Decides-no_list (entry_list list) path is_dir rules none
Decides-by_list list path is_dir rules (Some m) last = Decides-one_list (entry_list list) path is_dir rules m last.0 last.1
