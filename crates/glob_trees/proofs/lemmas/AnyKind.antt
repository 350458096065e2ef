-- What decides about a folder decides about a file, too, unless it is for directories only.
use Rattle.std.proofs.Common.{◌≡◌, inl, inr, ℕ, true, false, List, None, Some}
use Rattle.glob_lists.specs.declared.rules.Rules.{Rules}
use Rattle.gix_glob.specs.Entries.{Entry}
use Rattle.gix_glob.specs.EntryLists.{EntryList}
use Rattle.gix_glob.specs.Patterns.{is_for_directories}
use Rattle.glob_lists.specs.Deciding.{IsEntryAt}
use Rattle.glob_lists.proofs.lemmas.Deciding.Kinds.{PairAnswers-any, PairAnswers-folder}
use Rattle.glob_trees.specs.Trees.{DecidesInTree}

module _ {V : Type 0} (lists : List (EntryList V)) (path : List ℕ) (rules : Rules) where
  pub file_as_folder : (pair : ℕ × ℕ) (entry : Entry V) → IsEntryAt lists pair entry → is_for_directories entry.mode ≡ false
      → DecidesInTree lists path true rules (Some pair) → DecidesInTree lists path false rules (Some pair)
  file_as_folder pair entry at any (inl below) = inl below
  file_as_folder pair entry at any (inr (none, decides)) = inr (
    none,
    record {
      answers = PairAnswers-any lists path rules true false pair.0 pair.1 entry at any decides.answers;
      last = λ i m h. decides.last i m (PairAnswers-folder lists path rules false i m h);
    },
  )

  pub no_file_as_no_folder : DecidesInTree lists path true rules None → DecidesInTree lists path false rules None
  no_file_as_no_folder (inl below) = inl below
  no_file_as_no_folder (inr (none, decides)) = inr (none, λ i m h. decides i m (PairAnswers-folder lists path rules false i m h))
