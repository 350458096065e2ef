-- What answers for a file answers for a folder, and the other way round unless it is for directories only.
use Rattle.std.proofs.Common.{◌≡◌, ℕ, Bool, true, false, List, Option, refl, sym, ap, ◌∙◌}
use Rattle.std.specs.Prelude.{slice_get}
use Rattle.std.proofs.lemmas.Bool.{false≢true}
use Rattle.std.proofs.lemmas.Option.{same_Some}
use Rattle.gix_glob.specs.declared.pattern.Case.{Case}
use Rattle.gix_glob.specs.declared.pattern.Mode as pattern
use Rattle.gix_glob.specs.Entries.{Entry}
use Rattle.gix_glob.specs.EntryLists.{EntryList}
use Rattle.gix_glob.specs.Patterns.{is_for_directories}
use Rattle.glob_lists.specs.declared.rules.Reading.{Reading}
use Rattle.glob_lists.specs.declared.rules.Reading.TheVariants.{Crate, Git}
use Rattle.glob_lists.specs.declared.rules.Rules.{Rules}
use Rattle.glob_lists.specs.Deciding.{IsEntryAt, PairAnswers}
use Rattle.glob_lists.specs.Rules.{AnswersAs}

-- ---- one pattern

module _ (text : List ℕ) (mode : pattern.Mode) (path : List ℕ) (start : Option ℕ) (case : Case) where
  as_folder : (reading : Reading) (is_dir : Bool) → AnswersAs reading text mode path start is_dir case → AnswersAs reading text mode path start true case
  as_folder Crate is_dir h = record { directory = λ _. refl; splits = h.splits }
  as_folder Git is_dir h = record { directory = λ _. refl; by_name = h.by_name; by_path = h.by_path }

  as_any : (reading : Reading) (is_dir other : Bool) → is_for_directories mode ≡ false → AnswersAs reading text mode path start is_dir case → AnswersAs reading text mode path start other case
  as_any Crate is_dir other any h = record { directory = λ only. absurd (false≢true (sym any ∙ only)); splits = h.splits }
  as_any Git is_dir other any h = record { directory = λ only. absurd (false≢true (sym any ∙ only)); by_name = h.by_name; by_path = h.by_path }

-- ---- a pair of places

-- at a pair of places stands one entry
pub one_entry : {V : Type 0} (lists : List (EntryList V)) (pair : ℕ × ℕ) (entry other : Entry V) → IsEntryAt lists pair entry → IsEntryAt lists pair other → entry ≡ other
one_entry {V} lists pair entry other here there =
    let lists_are : here.list ≡ there.list = same_Some here.list there.list (sym here.of_lists ∙ there.of_lists) in
    same_Some entry other (sym here.of_list ∙ ap (λ (l : EntryList V). slice_get l.entries pair.1) lists_are ∙ there.of_list)

module _ {V : Type 0} (lists : List (EntryList V)) (path : List ℕ) (rules : Rules) where
  pub PairAnswers-folder : (is_dir : Bool) (i m : ℕ) → PairAnswers lists path is_dir rules i m → PairAnswers lists path true rules i m
  PairAnswers-folder is_dir i m h =
      let entry = h.answers.entry in
      let asked = h.answers.answers.answers in record {
        list = h.list;
        there = h.there;
        answers = record {
          entry = entry;
          there = h.answers.there;
          answers = record {
            rest = h.answers.answers.rest;
            left = h.answers.answers.left;
            answers = record {
              basename_start = asked.basename_start;
              basename = asked.basename;
              answers = as_folder entry.text entry.mode h.answers.answers.rest asked.basename_start rules.case rules.reading is_dir asked.answers;
            };
          };
        };
      }

  pub PairAnswers-any : (is_dir other : Bool) (i m : ℕ) (entry : Entry V) → IsEntryAt lists (i, m) entry → is_for_directories entry.mode ≡ false
      → PairAnswers lists path is_dir rules i m → PairAnswers lists path other rules i m
  PairAnswers-any is_dir other i m entry at any h =
      let own = h.answers.entry in
      let asked = h.answers.answers.answers in
      let same : own ≡ entry = one_entry lists (i, m) own entry (record { list = h.list; of_lists = h.there; of_list = h.answers.there }) at in
      let here : is_for_directories own.mode ≡ false = ap (λ (e : Entry V). is_for_directories e.mode) same ∙ any in record {
        list = h.list;
        there = h.there;
        answers = record {
          entry = own;
          there = h.answers.there;
          answers = record {
            rest = h.answers.answers.rest;
            left = h.answers.answers.left;
            answers = record {
              basename_start = asked.basename_start;
              basename = asked.basename;
              answers = as_any own.text own.mode h.answers.answers.rest asked.basename_start rules.case rules.reading is_dir other here asked.answers;
            };
          };
        };
      }
