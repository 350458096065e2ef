-- Which pattern of a stack of lists decides about a path: the last one that answers, where a later list comes after an
-- earlier one.
use Rattle.std.specs.Prelude.{◌≡◌, ◌⊎◌, ℕ, ◌<◌, ◌≤◌, Bool, List, All, slice_get, Option, Some, MatchOption}
use Rattle.std.specs.Option.{ForSome}
use Rattle.glob_lists.specs.declared.rules.Rules.{Rules}
use Rattle.gix_glob.specs.declared.pattern.Mode as pattern
use Rattle.gix_glob.specs.RepositoryPaths.{IsBasenameStart}
use Rattle.gix_glob.specs.Entries.{Entry}
use Rattle.gix_glob.specs.EntryLists.{EntryList}
use Rattle.gix_glob.specs.Paths.{IsFolder}
use Rattle.gix_glob.specs.Stripping.{RestOf}
use Rattle.glob_lists.specs.Rules.{AnswersAs}

-- the base of the list is that of a folder: it is missing, or empty, or ends in a slash
abbrev pub HasFolder : {V : Type 0} → EntryList V → Type 0
HasFolder list = ForSome list.base IsFolder

-- the base of each of the lists is that of a folder
abbrev pub BasesAreFolders : {V : Type 0} → List (EntryList V) → Type 0
BasesAreFolders lists = All HasFolder lists

-- a pattern of this text and mode answers for a path: for all of it, and for where its last part begins
pub record AnswersFor (text : List ℕ) (mode : pattern.Mode) (path : List ℕ) (is_dir : Bool) (rules : Rules) : Type 0 where
  pub basename_start : Option ℕ
  pub basename : IsBasenameStart path basename_start
  pub answers : AnswersAs rules.reading text mode path basename_start is_dir rules.case

-- the entry answers for a path: it does so for what the base leaves of it
pub record AnswersUnder {V : Type 0} (base : Option (List ℕ)) (entry : Entry V) (path : List ℕ) (is_dir : Bool) (rules : Rules) : Type 0 where
  pub rest : List ℕ
  pub left : RestOf rules.case base path rest
  pub answers : AnswersFor entry.text entry.mode rest is_dir rules

-- the entry at place m of the list answers for a path
pub record AnswersAt {V : Type 0} (list : EntryList V) (path : List ℕ) (is_dir : Bool) (rules : Rules) (m : ℕ) : Type 0 where
  pub entry : Entry V
  pub there : slice_get list.entries m ≡ Some entry
  pub answers : AnswersUnder list.base entry path is_dir rules

-- the entry at place m of the list at place i answers for a path
pub record PairAnswers {V : Type 0} (lists : List (EntryList V)) (path : List ℕ) (is_dir : Bool) (rules : Rules) (i m : ℕ) : Type 0 where
  pub list : EntryList V
  pub there : slice_get lists i ≡ Some list
  pub answers : AnswersAt list path is_dir rules m

-- The entry of this pair of places answers, and no later one does: none of a later list, and none that stands later in the
-- same list.
pub record IsLastAnswer {V : Type 0} (lists : List (EntryList V)) (path : List ℕ) (is_dir : Bool) (rules : Rules) (pair : ℕ × ℕ) : Type 0 where
  pub answers : PairAnswers lists path is_dir rules pair.0 pair.1
  pub last : (i m : ℕ) → PairAnswers lists path is_dir rules i m → (i < pair.0) ⊎ ((i ≡ pair.0) × (m ≤ pair.1))

-- The pair that decides about a path, where there is one: the greatest one that answers, lists first.
abbrev pub Decides : {V : Type 0} → List (EntryList V) → List ℕ → Bool → Rules → Option (ℕ × ℕ) → Type 0
Decides lists path is_dir rules pair =
    MatchOption pair ((i m : ℕ) → ¬ PairAnswers lists path is_dir rules i m) (IsLastAnswer lists path is_dir rules)

-- this entry stands at the pair of places: in the list at the first one, at the second one
pub record IsEntryAt {V : Type 0} (lists : List (EntryList V)) (pair : ℕ × ℕ) (entry : Entry V) : Type 0 where
  pub list : EntryList V
  pub of_lists : slice_get lists pair.0 ≡ Some list
  pub of_list : slice_get list.entries pair.1 ≡ Some entry

-- an entry stands at the pair of places
abbrev pub HasEntryAt : {V : Type 0} → List (EntryList V) → (ℕ × ℕ) → Type 0
HasEntryAt {V} lists pair = (entry : Entry V) × IsEntryAt lists pair entry
