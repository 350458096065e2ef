-- The rows of a list: one more of them, and the same rows otherwise linked; and where none passes, no entry answers.
use Rattle.std.proofs.Common.{◌≡◌, inl, inr, ℕ, ◌-◌, ◌*◌, List, [], ◌∷◌, ◌++◌, length, Option, None, Some, sym, ◌∙◌, ap, subst, arith}
use Rattle.std.specs.Prelude.{slice_get}
use Rattle.std.proofs.lemmas.Option.{same_Some, slice_get_within}
use Rattle.glob_lists.specs.declared.rules.Rules.{Rules}
use Rattle.gix_glob.specs.declared.pattern.Mode as pattern
use Rattle.gix_glob.specs.Entries.{Entry}
use Rattle.gix_glob.specs.EntryLists.{EntryList}
use Rattle.glob_lists.specs.declared.link.Link.{Link}
use Rattle.glob_lists.specs.declared.asks.probe.Probe.{Probe}
use Rattle.glob_lists.specs.declared.asks.row.Row.{Row}
use Rattle.glob_lists.specs.declared.asks.sight.Sight.{Sight}
use Rattle.glob_lists.specs.declared.asks.literals.TheConstants.{LONGEST_END}
use Rattle.glob_lists.specs.declared.list.rows.ListRows.{ListRows}
use Rattle.glob_lists.specs.Deciding.{AnswersAt}
use Rattle.glob_lists.specs.Paths.{Path}
use Rattle.glob_lists.specs.Prepared.{AreAsked}
use Rattle.glob_lists.specs.Private.Asks.Rows.{Asks, length_of}
use Rattle.glob_lists.specs.Private.Asks.Showing.{Passes, Shows}
use Rattle.glob_lists.specs.Private.Asks.Sights.{IsUnseen, SeesAll}
use Rattle.glob_lists.specs.Private.Lists.Answering.{NoneAnswers}
use Rattle.glob_lists.specs.Private.Lists.Prepared.{AreRowsOf}
use Rattle.glob_lists.specs.Private.Lists.Walking.{NonePasses}
use Rattle.glob_lists.proofs.lemmas.Elements.{slice_get-inside, slice_get-push_cases}
use Rattle.glob_lists.proofs.lemmas.Asks.PrefilterLemmas.{AnsweringPasses}
use Rattle.glob_lists.proofs.lemmas.Asks.SightLemmas.{Passes-seen}

-- a row asks for the same, whatever it is chained to
pub Asks-linked : (text : List ℕ) (mode : pattern.Mode) (row : Row) (before : Link) → Asks text mode row → Asks text mode (record row { before = before })
Asks-linked text mode row before a = record { spare = a.spare; end = a.end; bits = a.bits; name = a.name; told = a.told; inside = a.inside }

-- ---- rows in the order of entries

-- each row asks for what the entry at its place does
abbrev pub AskInOrder : {V : Type 0} → List (Entry V) → List Row → Type 0
AskInOrder {V} entries rows = (m : ℕ) (entry : Entry V) (row : Row) → slice_get entries m ≡ Some entry → slice_get rows m ≡ Some row → Asks entry.text entry.mode row

pub AskInOrder-more : {V : Type 0} (entries : List (Entry V)) (rows : List Row) (m : ℕ) (entry : Entry V) (row : Row) → length rows ≡ m → slice_get entries m ≡ Some entry → Asks entry.text entry.mode row
    → AskInOrder entries rows → AskInOrder entries (rows ++ row ∷ [])
AskInOrder-more {V} entries rows m entry row many here asks before n other added got_entry got = elim (slice_get-push_cases rows row n added got) [
  | inl old ↦ before n other added got_entry old
  | inr new ↦
      (let place : n ≡ m = new.0 ∙ many in
      let is : other ≡ entry = same_Some other entry (sym got_entry ∙ (ap (slice_get entries) place ∙ here)) in
      subst (λ (r : Row). Asks other.text other.mode r) (sym new.1) (subst (λ (e : Entry V). Asks e.text e.mode row) (sym is) asks))
]

-- ---- a list with its rows

module _ {V : Type 0} (list : EntryList V) (rows : List Row) (are : AreAsked list.entries rows) where
  rows_spare_bytes : (m : ℕ) (row : Row) → slice_get rows m ≡ Some row → row.spare ≡ 8 * (LONGEST_END - length_of row)
  rows_spare_bytes m row got =
      let inside = slice_get_within rows m row got in
      let many = are.many in
      let entry = slice_get-inside list.entries m (omega arith) in
      let asks = are.each m entry.0 row entry.1 got in
      asks.spare

  -- the row of an entry that answers passes
  pub row_passes : (path : Path) (rules : Rules) (probe : Probe) → AnsweringPasses → Shows path.bytes probe → (m : ℕ) → AnswersAt list path.bytes path.is_dir rules m
      → (row : Row) × (slice_get rows m ≡ Some row) × Passes row probe
  row_passes path rules probe law shows m answers =
      let inside = slice_get_within list.entries m answers.entry answers.there in
      let many = are.many in
      let row = slice_get-inside rows m (omega arith) in
      let asks = are.each m answers.entry row.0 answers.there row.1 in
      let under = answers.answers in
      (row.0, row.1, law answers.entry.text answers.entry.mode list.base path.bytes under.rest path.is_dir rules row.0 probe shows asks under.left under.answers)

  -- between places between which no row passes no entry answers
  pub NoneAnswers-passed : (path : Path) (rules : Rules) (probe : Probe) → AnsweringPasses → Shows path.bytes probe → (from to : ℕ) → NonePasses rows probe from to → NoneAnswers list path rules from to
  NoneAnswers-passed path rules probe law shows from to none m low below answers =
      let at = row_passes path rules probe law shows m answers in
      none m at.0 low below at.1 at.2

  -- where a path shows nothing that the rows ask for together, no entry answers
  pub none_seen_answers : (path : Path) (rules : Rules) (probe : Probe) (sight : Sight) → AnsweringPasses → Shows path.bytes probe → SeesAll rows sight → IsUnseen (Some sight) probe
      → (m : ℕ) → ¬ AnswersAt list path.bytes path.is_dir rules m
  none_seen_answers path rules probe sight law shows sees unseen m answers =
      let at = row_passes path rules probe law shows m answers in
      unseen (Passes-seen probe sight at.0 (rows_spare_bytes m at.0 at.1) (sees m at.0 at.1) at.2)

-- where it is known that a path shows nothing that the rows ask for together, no entry answers
pub unseen_answers : {V : Type 0} (list : EntryList V) (rows : ListRows) → AreRowsOf list rows → (path : Path) (rules : Rules) (probe : Probe) (sight : Option Sight) → sight ≡ rows.sight → AnsweringPasses
    → Shows path.bytes probe → IsUnseen sight probe → (m : ℕ) → ¬ AnswersAt list path.bytes path.is_dir rules m
unseen_answers list rows are path rules probe None is law shows unseen m = absurd unseen
unseen_answers list rows are path rules probe (Some sight) is law shows unseen m =
    none_seen_answers list rows.rows.items are.asked path rules probe sight law shows (rw (← is) at are.seen) unseen m
