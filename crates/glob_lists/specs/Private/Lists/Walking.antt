-- A walk over rows, from the last one to the first.
use Rattle.std.specs.Prelude.{◌≡◌, ◌⊎◌, ℕ, ◌+◌, ◌<◌, ◌≤◌, List, MatchOption, Option, Some, length, slice_get, slice_index, slice_index_or}
use Rattle.glob_lists.specs.declared.link.Link.{Link}
use Rattle.glob_lists.specs.declared.link.TheConstants.Link.{NONE}
use Rattle.glob_lists.specs.declared.asks.literals.TheConstants.{LONGEST_END}
use Rattle.glob_lists.specs.declared.asks.probe.Probe.{Probe}
use Rattle.glob_lists.specs.declared.asks.row.Row.{Row}
use Rattle.glob_lists.specs.declared.list.walk.Walk.{Walk}
use Rattle.glob_lists.specs.Private.Asks.Rows.{HasSomeEnd}
use Rattle.glob_lists.specs.Private.Asks.Showing.{HasEnd, Lacks, Passes}
use Rattle.glob_lists.specs.Private.Lists.Chains.{AreChained, IsLastBelow, chains_of}

-- the next row of the chain at place n of a walk
abbrev pub next_of : Walk → ℕ → ℕ
next_of walk n = (slice_index_or walk.nexts n NONE).0

-- No other chain of the walk has a later next row; where it has no chain, there is no next row.
pub record IsLatest (walk : Walk) : Type 0 where
  pub within : walk.latest < LONGEST_END
  pub here : (walk.latest < walk.count) ⊎ (next_of walk walk.latest ≡ 0)
  pub most : (n : ℕ) → n < walk.count → next_of walk n ≤ next_of walk walk.latest

-- What holds of a walk over so many rows, whatever they say.
pub record IsInside (count : ℕ) (walk : Walk) : Type 0 where
  pub within : walk.passed_from ≤ count
  pub few : walk.count ≤ LONGEST_END
  pub latest : IsLatest walk

-- The walk stands behind so many rows, and leads to none.
pub record IsFresh (count : ℕ) (probe : Probe) (walk : Walk) : Type 0 where
  pub all : walk.passed_from ≡ count
  pub none : next_of walk 0 ≡ 0
  pub no_chain : walk.count ≡ 0
  pub latest : walk.latest ≡ 0
  pub lacking : Lacks probe walk.lacking

-- The row is the next one of some chain of the walk.
abbrev pub HasNext : Walk → Link → Type 0
HasNext walk next = (n : ℕ) × (n < walk.count) × (next_of walk n ≡ next.0)

-- The walk is at the last row of each of these chains below the place `walk.passed_from`.
pub record AreNexts (chains own : List ℕ) (walk : Walk) : Type 0 where
  pub many : length own ≡ walk.count
  pub some : (n chain : ℕ) → slice_get own n ≡ Some chain → 0 < chain
  pub next : (n chain : ℕ) → slice_get own n ≡ Some chain → IsLastBelow chains chain walk.passed_from (slice_index_or walk.nexts n NONE)
  pub apart : (m n chain : ℕ) → slice_get own m ≡ Some chain → slice_get own n ≡ Some chain → m ≡ n

-- Below the place `walk.passed_from` the walk leads to the last row of each chain that has an end of the path, and to the last one without an
-- end.
pub record IsWalk (chains : List ℕ) (rows : List Row) (probe : Probe) (walk : Walk) : Type 0 where
  pub lacking : Lacks probe walk.lacking
  pub other : IsLastBelow chains 0 walk.passed_from walk.other
  pub own : List ℕ
  pub nexts : AreNexts chains own walk
  pub all : (place : ℕ) (row : Row) → slice_get rows place ≡ Some row → HasSomeEnd row → HasEnd row probe → (n : ℕ) × (slice_get own n ≡ Some (slice_index chains place))

-- The rows are chained from some heads on, and the walk is one over them.
pub record IsBelieved (rows : List Row) (probe : Probe) (walk : Walk) : Type 0 where
  pub heads : List Link
  pub chained : AreChained rows heads
  pub at : IsWalk (chains_of (length heads) rows) rows probe walk

-- the walk is one over rows that are chained from these heads on, where there are any
abbrev pub IsWalkOver : List Row → List Link → Probe → Walk → Type 0
IsWalkOver rows heads probe walk = 1 < length heads → IsWalk (chains_of (length heads) rows) rows probe walk

-- the row at a place passes
abbrev pub PassesAt : List Row → Probe → ℕ → Type 0
PassesAt rows probe place = (row : Row) → slice_get rows place ≡ Some row → Passes row probe

-- no row from one place up to another passes
abbrev pub NonePasses : List Row → Probe → ℕ → ℕ → Type 0
NonePasses rows probe from to = (m : ℕ) (row : Row) → from ≤ m → m < to → slice_get rows m ≡ Some row → ¬ Passes row probe

-- what was found passes, and none passes between it and the end; where nothing was found, none passes from a place on
abbrev pub IsNextFrom : List Row → Probe → ℕ → ℕ → Option ℕ → Type 0
IsNextFrom rows probe from end found = MatchOption found (NonePasses rows probe from end) (λ place. PassesAt rows probe place × NonePasses rows probe (place + 1) end)
