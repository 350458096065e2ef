-- What is written for a path line and a stack of lists.
use Rattle.std.proofs.Common.{◌≡◌, ◌+◌, ℕ, Bool, List, ◌++◌, None, Some, Result, Ok, Err, refl}
use Rattle.std.specs.Prelude.{OnOk, codes, if◌then◌else◌, is_ok, slice_get}
use Rattle.glob_lists.specs.declared.rules.Rules.{Rules}
use Rattle.glob_lists.specs.Deciding.{Decides}
use Rattle.gix_glob.specs.Entries.{Entry}
use Rattle.gix_glob.specs.EntryLists.{EntryList}
use Rattle.glob_lines.specs.Decisions.{WritesDecision, verdict}
use Rattle.glob_lines.specs.Private.Growing.{Adds}

module _ {V : Type 0} (lists : List (EntryList V)) (rules : Rules) (path : List ℕ) (is_dir : Bool) (old new : List ℕ) where
  pub writes_verdict : (i m : ℕ) (list : EntryList V) (entry : Entry V) → Decides lists path is_dir rules (Some (i, m))
      → slice_get lists i ≡ Some list → slice_get list.entries m ≡ Some entry → new ≡ old ++ verdict (i + 1) entry → Adds (WritesDecision lists rules path is_dir) old new
  writes_verdict i m list entry decides of_lists of_list grown = record {
    added = verdict (i + 1) entry;
    allowed = record { pair = Some (i, m); decides = decides; shown = record { list = list; of_lists = of_lists; entry = entry; of_list = of_list; shown = refl } };
    grown = grown;
  }

  pub writes_none : Decides lists path is_dir rules None → new ≡ old ++ codes "none" → Adds (WritesDecision lists rules path is_dir) old new
  writes_none decides grown = record {
    added = codes "none";
    allowed = record { pair = None; decides = decides; shown = refl };
    grown = grown;
  }

-- a text that grew unless memory was refused
pub grown_on_ok : {T E : Type 0} (result : Result T E) (new grown old : List ℕ) → new ≡ (if is_ok result then grown else old) → OnOk result (new ≡ grown)
grown_on_ok (Ok x) new grown old is = is
grown_on_ok (Err e) new grown old is = tt
