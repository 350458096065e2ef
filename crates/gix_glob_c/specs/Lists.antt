-- The lists that C hands over, what is told of a path by one of them, and the pair of places that it is told by several.
use Rattle.std.specs.Prelude.{◌≡◌, ◌⊎◌, ℕ, ◌<◌, ◌==◌, ◌||◌, nat_eq, Bool, List, [], ◌∷◌, All, codes, length, map, option_map, slice_get, take, Option, None, Some, if◌then◌else◌}
use Rattle.std.specs.List.{ends_with, flat_map}
use Rattle.gix_glob.specs.EntryLists.{EntryList}
use Rattle.glob_lists.specs.declared.prepared.Heads.{Heads}
use Rattle.glob_lists.specs.declared.rules.Reading.{Reading}
use Rattle.glob_lists.specs.Deciding.{Decides}
use Rattle.glob_lists.specs.Prepared.{ArePrepared}
use Rattle.gix_glob_c.specs.Parsed.{IsLawful, IsPathOfFile, entry_of_parts, reading_of_all}
use Rattle.gix_glob_c.specs.Parts.{none, rules_of, unless_none}
use Rattle.gix_glob_c.specs.declared.lists.GlobList.{GlobList}
use Rattle.gix_glob_c.specs.declared.parsed.GlobPattern.{GlobPattern}
use Rattle.gix_glob_c.specs.declared.paths.GlobPath.{GlobPath}
use Rattle.gix_glob_c.specs.declared.tree.GlobDecision.{GlobDecision}

-- the base is that of a folder: empty, or with a slash at its end
abbrev pub names_folder : List ℕ → Bool
names_folder base = length base == 0 || ends_with nat_eq base (codes "/")

-- the patterns of a list that say something: none where the base is that of no folder
abbrev pub patterns_of : GlobList → List GlobPattern
patterns_of list = if names_folder list.base.now then list.patterns.now else []

-- where the list has heads, they and the rows are what was prepared for its patterns
abbrev pub IsPreparedSo : GlobList → Type 0
IsPreparedSo list =
    (heads : Heads) → slice_get list.heads.now 0 ≡ Some heads
    → ArePrepared (map entry_of_parts list.patterns.now) (take (length list.patterns.now) list.rows.now) heads

-- the parts of each pattern make one, and what is prepared is right
pub record IsLawfulList (list : GlobList) : Type 0 where
  pub patterns : All IsLawful list.patterns.now
  pub prepared : IsPreparedSo list

-- the list as plain data
abbrev pub entry_list : GlobList → EntryList (Unit {0})
entry_list list = record { entries = map entry_of_parts (patterns_of list); source = None; base = Some list.base.now }

-- whose reading counts for the lists of a call: that of their first pattern
abbrev pub reading_of_lists : List GlobList → Reading
reading_of_lists lists = reading_of_all (flat_map (λ list. list.patterns.now) lists)

-- The number tells which of the list's patterns is the last one that matches the path.
pub record IsToldOf (list : GlobList) (fold : Bool) (path : GlobPath) (place : ℕ) : Type 0 where
  pub inside : (place ≡ none) ⊎ (place < length list.patterns.now)
  pub other : ¬ IsPathOfFile path.bytes.now → place ≡ none
  pub exact : IsLawfulList list → IsPathOfFile path.bytes.now
      → Decides (entry_list list ∷ []) path.bytes.now path.is_dir (rules_of (reading_of_all list.patterns.now) fold) (option_map (λ (m : ℕ). (0, m)) (unless_none place))

-- a pattern of the lists stands at this pair of places
pub record HasPatternAt (lists : List GlobList) (pair : ℕ × ℕ) : Type 0 where
  pub list : GlobList
  pub of_lists : slice_get lists pair.0 ≡ Some list
  pub of_list : pair.1 < length list.patterns.now

-- the pair that a call has written, where it says that there is one
abbrev pub pair_told : Bool → GlobDecision → Option (ℕ × ℕ)
pair_told is_there decision = if is_there then Some (decision.list, decision.pattern) else None
