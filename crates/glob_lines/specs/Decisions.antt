-- The text of decisions: what is written for path lines and a stack of lists.
use Rattle.std.specs.Prelude.{◌≡◌, ℕ, ◌+◌, Bool, if◌then◌else◌, List, ◌++◌, slice_get, Option, Some, MatchOption, decimal, codes}
use Rattle.gix_glob.specs.declared.pattern.Case.{Case}
use Rattle.glob_lists.specs.declared.rules.Rules.{Rules}
use Rattle.glob_lists.specs.Rules.{by_crate}
use Rattle.glob_lists.specs.Deciding.{Decides}
use Rattle.gix_glob.specs.Entries.{Entry}
use Rattle.gix_glob.specs.EntryLists.{EntryList}
use Rattle.gix_glob.specs.Patterns.{is_negative}
use Rattle.glob_lines.specs.Lines.{WritesLines}
use Rattle.glob_lines.specs.PathLines.{WritesForPath}

-- what is said of an entry that decides: whether the path is kept or ignored, by which list, and by which number in it
abbrev pub verdict : {V : Type 0} → ℕ → Entry V → List ℕ
verdict list_number entry =
    (if is_negative entry.mode then codes "kept " else codes "ignored ") ++ (decimal list_number ++ (codes ":" ++ decimal entry.number))

-- The line is what is said of the entry at this pair of places. Lists are numbered from 1.
pub record WritesVerdict {V : Type 0} (lists : List (EntryList V)) (pair : ℕ × ℕ) (written : List ℕ) : Type 0 where
  pub list : EntryList V
  pub of_lists : slice_get lists pair.0 ≡ Some list
  pub entry : Entry V
  pub of_list : slice_get list.entries pair.1 ≡ Some entry
  pub shown : written ≡ verdict (pair.0 + 1) entry

-- The line for a path: what is said of the entry that decides, and `none` where no entry does.
pub record WritesDecision {V : Type 0} (lists : List (EntryList V)) (rules : Rules) (path : List ℕ) (is_dir : Bool) (written : List ℕ) : Type 0 where
  pub pair : Option (ℕ × ℕ)
  pub decides : Decides lists path is_dir rules pair
  pub shown : MatchOption pair (written ≡ codes "none") (λ p. WritesVerdict lists p written)

-- The text of decisions: a line for each path line, in order.
abbrev pub DecisionsText : {V : Type 0} → List (EntryList V) → Case → List ℕ → List ℕ → Type 0
DecisionsText lists case paths text = WritesLines (WritesForPath (WritesDecision lists (by_crate case))) paths text
