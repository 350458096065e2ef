-- What the index has, where the case of letters may not count.
use Rattle.std.specs.Prelude.{ℕ, List}
use Rattle.git_index.specs.Entries.{HasBelow, IsSubmodule, IsTracked, Tracked}
use Rattle.gix_glob.specs.declared.pattern.Case.{Case}
use Rattle.gix_glob.specs.declared.pattern.Case.TheVariants.{Sensitive, Fold}
use Rattle.glob_trees.specs.Ways.{Folder}
use Rattle.git_index.specs.Folding.{HasBelowFolded, IsSubmoduleFolded, IsTrackedFolded}

-- the entries of the index, and whether case counts where a path is looked up among them
pub record LookedUp : Type 0 where
  pub case : Case
  pub entries : List Tracked

-- an entry has the path
abbrev pub HasEntryBy : Case → List Tracked → List ℕ → Type 0
HasEntryBy Sensitive entries path = IsTracked entries path
HasEntryBy Fold entries path = IsTrackedFolded entries path

abbrev pub HasEntry : LookedUp → List ℕ → Type 0
HasEntry tracked path = HasEntryBy tracked.case tracked.entries path

-- one lies in the folder
abbrev pub HasEntryBelowBy : Case → List Tracked → Folder → Type 0
HasEntryBelowBy Sensitive entries folder = HasBelow entries folder
HasEntryBelowBy Fold entries folder = HasBelowFolded entries folder

abbrev pub HasEntryBelow : LookedUp → Folder → Type 0
HasEntryBelow tracked folder = HasEntryBelowBy tracked.case tracked.entries folder

-- the folder is a submodule's; where case doesn't count, none in which an entry lies is
abbrev pub IsOfSubmoduleBy : Case → List Tracked → Folder → Type 0
IsOfSubmoduleBy Sensitive entries folder = IsSubmodule entries folder
IsOfSubmoduleBy Fold entries folder = IsSubmoduleFolded entries folder × (¬ HasBelowFolded entries folder)

abbrev pub IsOfSubmodule : LookedUp → Folder → Type 0
IsOfSubmodule tracked folder = IsOfSubmoduleBy tracked.case tracked.entries folder
