-- What decides about a path as about a folder, and what decides about it whatever stands there.
use Rattle.std.proofs.Common.{◌≡◌, ℕ, Bool, true, false, List, [], ◌∷◌, ◌++◌, take, Option, None, Some, inr, map, option_map, refl, sym, ap, subst, ◌∙◌}
use Rattle.std.specs.Prelude.{IsTrue, not, slice_get}
use Rattle.std.specs.Vec.{vec_items}
use Rattle.std.proofs.lemmas.Bool.{false≢true}
use Rattle.std.proofs.lemmas.List.{map-append, take-map}
use Rattle.std.proofs.lemmas.List.Elements.{All-push, All-take}
use Rattle.std.proofs.lemmas.Option.{same_Some}
use Rattle.gix_glob.specs.declared.pattern.Case.{Case}
use Rattle.gix_glob.specs.declared.search.pattern.list.List as patterns
use Rattle.gix_glob.specs.Bytes.{slash}
use Rattle.gix_glob.specs.Entries.{Entry}
use Rattle.gix_glob.specs.EntryLists.{EntryList, entry_list_of}
use Rattle.gix_glob.specs.Patterns.{is_for_directories, is_negative}
use Rattle.glob_lists.specs.Deciding.{BasesAreFolders, Decides, HasFolder, IsEntryAt}
use Rattle.glob_lists.specs.Rules.{by_git}
use Rattle.glob_lists.proofs.lemmas.Deciding.Kinds.{PairAnswers-any, PairAnswers-folder, one_entry}
use Rattle.glob_lists.proofs.lemmas.Deciding.DecidesOnce.{decides_once}
use Rattle.tree_commands.specs.Ignoring.{IsIgnored}
use Rattle.tree_commands.specs.Private.Ignoring.{IsDecidedBy}

-- ---- what decides

module _ {V : Type 0} (lists : List (EntryList V)) (case : Case) (path : List ℕ) where
  -- an entry that decides about a folder, and isn't for folders alone, decides whatever stands there
  decides_whatever : (entry : Entry V) → IsDecidedBy lists case path true entry → is_for_directories entry.mode ≡ false → (is_dir : Bool) → IsDecidedBy lists case path is_dir entry
  decides_whatever entry it all is_dir = record {
    pair = it.pair;
    decides = record {
      answers = PairAnswers-any lists path (by_git case) true is_dir it.pair.0 it.pair.1 entry it.there all it.decides.answers;
      last = λ i m other. it.decides.last i m (PairAnswers-folder lists path (by_git case) is_dir i m other);
    };
    there = it.there;
  }

  -- one entry decides about a path
  one_decides : (is_dir : Bool) (entry other : Entry V) → IsDecidedBy lists case path is_dir entry → IsDecidedBy lists case path is_dir other → entry ≡ other
  one_decides is_dir entry other it that =
      let same : it.pair ≡ that.pair =
      same_Some it.pair that.pair (decides_once lists path is_dir (by_git case) (Some it.pair) (Some that.pair) it.decides that.decides) in
      one_entry lists that.pair entry other (subst (λ (pair : ℕ × ℕ). IsEntryAt lists pair entry) same it.there) that.there

  -- an entry that decides, and isn't negative, ignores the path; and no other way is there to be ignored
  ignored_by : (is_dir : Bool) (entry : Entry V) → IsDecidedBy lists case path is_dir entry → is_negative entry.mode ≡ false → IsIgnored lists case path is_dir
  ignored_by is_dir entry it positive = (it.pair, it.decides, record { list = it.there.list; of_lists = it.there.of_lists; entry = entry; of_list = it.there.of_list; positive = positive })

  ignoring_entry : (is_dir : Bool) → IsIgnored lists case path is_dir → (entry : Entry V) × IsDecidedBy lists case path is_dir entry × (is_negative entry.mode ≡ false)
  ignoring_entry is_dir it =
      let at = it.2 in
      (at.entry, record { pair = it.0; decides = it.1; there = record { list = at.list; of_lists = at.of_lists; of_list = at.of_list } }, at.positive)

  pub none_ignores : (is_dir : Bool) → Decides lists path is_dir (by_git case) None → ¬ IsIgnored lists case path is_dir
  none_ignores is_dir none it =
      let answers = it.1.answers in none it.0.0 it.0.1 answers

  pub none_ignores_whatever : Decides lists path true (by_git case) None → (is_dir : Bool) → ¬ IsIgnored lists case path is_dir
  none_ignores_whatever none is_dir it =
      let answers = it.1.answers in none it.0.0 it.0.1 (PairAnswers-folder lists path (by_git case) is_dir _ _ answers)

  pub negative_keeps : (is_dir : Bool) (entry : Entry V) → IsDecidedBy lists case path is_dir entry → is_negative entry.mode ≡ true → ¬ IsIgnored lists case path is_dir
  negative_keeps is_dir entry it negative ignored =
      let that = ignoring_entry is_dir ignored in
      let same : that.0 ≡ entry = one_decides is_dir that.0 entry that.1 it in
      false≢true (sym that.2 ∙ ap (λ (e : Entry V). is_negative e.mode) same ∙ negative)

  pub negative_keeps_whatever : (entry : Entry V) → IsDecidedBy lists case path true entry → is_for_directories entry.mode ≡ false → is_negative entry.mode ≡ true → (is_dir : Bool) → ¬ IsIgnored lists case path is_dir
  negative_keeps_whatever entry it all negative is_dir = negative_keeps is_dir entry (decides_whatever entry it all is_dir) negative

  pub positive_ignores_whatever : (entry : Entry V) → IsDecidedBy lists case path true entry → is_for_directories entry.mode ≡ false → is_negative entry.mode ≡ false → (is_dir : Bool) → IsIgnored lists case path is_dir
  positive_ignores_whatever entry it all positive is_dir = ignored_by is_dir entry (decides_whatever entry it all is_dir) positive

  -- a path is ignored exactly if the entry that decides about it isn't negative
  pub tells_ignored : (is_dir : Bool) (entry : Entry V) → IsDecidedBy lists case path is_dir entry → (negative : Bool) → negative ≡ is_negative entry.mode
      → (IsTrue (not negative) → IsIgnored lists case path is_dir) × (IsIgnored lists case path is_dir → IsTrue (not negative))
  tells_ignored is_dir entry it false is = (λ _. ignored_by is_dir entry it (sym is), λ _. refl)
  tells_ignored is_dir entry it true is = (λ no. absurd (false≢true no), λ that. absurd (negative_keeps is_dir entry it (sym is) that))
