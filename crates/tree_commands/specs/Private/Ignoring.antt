-- What is said of a path before it is known what stands there.
use Rattle.std.specs.Prelude.{◌≡◌, ℕ, Bool, true, IsTrue, List, Some}
use Rattle.gix_glob.specs.declared.pattern.Case.{Case}
use Rattle.gix_glob.specs.declared.Pattern.{Pattern}
use Rattle.gix_glob.specs.PatternParts.{mode_of}
use Rattle.gix_glob.specs.Entries.{Entry}
use Rattle.gix_glob.specs.EntryLists.{EntryList}
use Rattle.gix_glob.specs.Patterns.{is_for_directories}
use Rattle.glob_lists.specs.Deciding.{Decides, IsEntryAt}
use Rattle.glob_lists.specs.Rules.{by_git}
use Rattle.tree_commands.specs.declared.files.ignoring.Ignoring.{Ignoring}
use Rattle.tree_commands.specs.declared.files.ignoring.Ignoring.TheVariants.{Always, Never, ByKind}
use Rattle.tree_commands.specs.Ignoring.{IsIgnored}

-- the entry decides about the path
pub record IsDecidedBy {V : Type 0} (lists : List (EntryList V)) (case : Case) (path : List ℕ) (is_dir : Bool) (entry : Entry V) : Type 0 where
  pub pair : ℕ × ℕ
  pub decides : Decides lists path is_dir (by_git case) (Some pair)
  pub there : IsEntryAt lists pair entry

-- the pattern is that of the entry which decides about the path
abbrev pub HasDecidingPattern : {V : Type 0} → List (EntryList V) → Case → List ℕ → Bool → Pattern → Type 0
HasDecidingPattern {V} lists case path is_dir pattern = (entry : Entry V) × IsDecidedBy lists case path is_dir entry × (entry.mode ≡ mode_of pattern)

-- What can be said of a path whatever stands there. Only where an entry for folders alone decides about it as about a folder, that depends
-- on what does.
abbrev pub IsSaid : {V : Type 0} → List (EntryList V) → Case → List ℕ → Ignoring → Type 0
IsSaid lists case path Always = (is_dir : Bool) → IsIgnored lists case path is_dir
IsSaid lists case path Never = (is_dir : Bool) → ¬ IsIgnored lists case path is_dir
IsSaid {V} lists case path ByKind = (entry : Entry V) × IsDecidedBy lists case path true entry × IsTrue (is_for_directories entry.mode)
