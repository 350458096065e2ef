-- What the entries of one list answer for a path, from the last one to the first, and what it takes to find that.
use Rattle.std.specs.Prelude.{◌≡◌, ◌↔◌, ℕ, ◌+◌, ◌<◌, ◌≤◌, Bool, IsTrue, List, Option, MatchOption, drop, length, sum_by}
use Rattle.std.specs.Option.{ForSome}
use Rattle.glob_lists.specs.declared.rules.Rules.{Rules}
use Rattle.gix_glob.specs.EntryLists.{EntryList}
use Rattle.gix_glob.specs.Paths.{IsFolder}
use Rattle.gix_glob.specs.PatternLimits.{pattern_look_limit, pattern_step_limit}
use Rattle.gix_glob.specs.Patterns.{IsPattern}
use Rattle.gix_glob.specs.Steps.{Counts, NeverFall}
use Rattle.gix_glob.specs.Stripping.{RestOf}
use Rattle.gix_glob.specs.declared.pattern.Mode as pattern
use Rattle.glob_lists.specs.declared.asks.probe.Probe.{Probe}
use Rattle.glob_lists.specs.declared.asks.row.Row.{Row}
use Rattle.glob_lists.specs.declared.list.rows.ListRows.{ListRows}
use Rattle.glob_lists.specs.declared.list.walk.Walk.{Walk}
use Rattle.glob_lists.specs.Deciding.{AnswersAt, AnswersFor}
use Rattle.glob_lists.specs.Paths.{Path}
use Rattle.glob_lists.specs.Private.Asked.{SpendsWith}
use Rattle.glob_lists.specs.Private.Asks.Showing.{Shows}
use Rattle.glob_lists.specs.Private.Lists.Walking.{IsInside, IsWalkOver}

-- The answer tells whether a pattern of this row answers for what some folder leaves of the path that shows the probe.
abbrev pub TellsBelow : Row → Probe → List ℕ → pattern.Mode → Option ℕ → Path → Rules → Bool → Type 0
TellsBelow row probe text mode place rest rules answer =
    (base : Option (List ℕ)) (path : List ℕ) → ForSome base IsFolder → Shows path probe → RestOf rules.case base path rest.bytes → IsPattern text mode place
    → IsTrue answer ↔ AnswersFor text mode rest.bytes rest.is_dir rules

-- the place of the last entry of the list that answers, where there is one
abbrev pub IsLastMatch : {V : Type 0} → EntryList V → Path → Rules → Option ℕ → Type 0
IsLastMatch list path rules found =
    MatchOption found ((m : ℕ) → ¬ AnswersAt list path.bytes path.is_dir rules m)
    (λ last. AnswersAt list path.bytes path.is_dir rules last × ((m : ℕ) → AnswersAt list path.bytes path.is_dir rules m → m ≤ last))

-- no entry from one place up to another answers
abbrev pub NoneAnswers : {V : Type 0} → EntryList V → Path → Rules → ℕ → ℕ → Type 0
NoneAnswers list path rules from to = (m : ℕ) → from ≤ m → m < to → ¬ AnswersAt list path.bytes path.is_dir rules m

-- The place is the one that was come to, its entry answers, and from there up to `end` no other one does.
pub record IsNextMatch {V : Type 0} (list : EntryList V) (path : Path) (rules : Rules) (passed_from end place : ℕ) : Type 0 where
  pub here : place ≡ passed_from
  pub below : passed_from < end
  pub answers : AnswersAt list path.bytes path.is_dir rules place
  pub between : NoneAnswers list path rules (passed_from + 1) end

-- The base of the list leaves this of the path.
pub record IsRest {V : Type 0} (list : EntryList V) (path : Path) (rules : Rules) (rest : Path) : Type 0 where
  pub left : RestOf rules.case list.base path.bytes rest.bytes
  pub is_dir : rest.is_dir ≡ path.is_dir

-- The walk is one over the rows.
pub record IsWalkOf (rows : ListRows) (probe : Probe) (walk : Walk) : Type 0 where
  pub inside : IsInside (length rows.rows.items) walk
  pub other : 1 < length rows.heads.items → walk.other.0 ≤ walk.passed_from
  pub over : IsWalkOver rows.rows.items rows.heads.items probe walk

-- how many steps the entries of a list from place m on take at most, and how many looks, v being the length of the path
abbrev pub steps_from : {V : Type 0} → EntryList V → ℕ → ℕ → ℕ
steps_from list v m = sum_by (λ entry. pattern_step_limit (length entry.text) v) (drop m list.entries)

abbrev pub looks_from : {V : Type 0} → EntryList V → ℕ → ℕ → ℕ
looks_from list v m = sum_by (λ entry. pattern_look_limit (length entry.text) v) (drop m list.entries)

-- The counts rose by at most what the entries from place `to` on and before `from` may take, and a look for each of these.
pub record SpendsDown {V : Type 0} (list : EntryList V) (v from to : ℕ) (before after : Counts) : Type 0 where
  pub steps : after.steps + steps_from list v from ≤ before.steps + steps_from list v to
  pub looks : after.looks + looks_from list v from + to ≤ before.looks + looks_from list v to + from
  pub grows : NeverFall before after

-- the counts rose by at most what the list may take, and a look for each of its rows
abbrev pub Spends : {V : Type 0} → EntryList V → ℕ → Counts → Counts → Type 0
Spends list v before after = SpendsWith list (length list.entries) v before after
