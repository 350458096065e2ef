-- Chains of rows, from the last one to the first: one of the rows without an end, and one for each bucket of ends.
use Rattle.std.specs.Prelude.{◌≡◌, ◌≢◌, ℕ, ◌+◌, ◌-◌, ◌*◌, ◌/◌, ◌%◌, ◌^◌, ◌<◌, ◌≤◌, List, Some, if◌then◌else◌, length, map, nat_lt, slice_get, slice_index, slice_index_or}
use Rattle.glob_lists.specs.declared.asks.row.Row.{Row}
use Rattle.glob_lists.specs.declared.asks.sight.TheConstants.{ENDS}
use Rattle.glob_lists.specs.declared.link.Link.{Link}
use Rattle.glob_lists.specs.declared.link.TheConstants.Link.{NONE}

-- the chain of an end among so many: not the first, which is that of the rows without one
abbrev pub end_chain : ℕ → ℕ → ℕ
end_chain count key = 1 + key * ENDS % 2 ^ 64 / 2 ^ 32 * (count - 1) / 2 ^ 32

-- the chain of a row among so many
abbrev pub chain_of : ℕ → Row → ℕ
chain_of count row = if nat_lt row.spare 64 then end_chain count row.asked else 0

abbrev pub chains_of : ℕ → List Row → List ℕ
chains_of count rows = map (chain_of count) rows

-- the links of the rows
abbrev pub links_of : List Row → List Link
links_of rows = map (λ (row : Row). row.before) rows

-- The link leads to the last place below `end` that is of this chain, or there is none, and it leads nowhere. Its number is one more than the
-- place, or 0.
pub record IsLastBelow (chains : List ℕ) (chain end : ℕ) (link : Link) : Type 0 where
  pub below : link.0 ≤ end
  pub others : (m : ℕ) → link.0 ≤ m → m < end → slice_index chains m ≢ chain
  pub here : 0 < link.0 → slice_index chains (link.0 - 1) ≡ chain

-- Each chain has its last place at its head, and each place is linked to the one before it of its chain.
pub record IsChained (chains : List ℕ) (links heads : List Link) : Type 0 where
  pub head : (chain : ℕ) → chain < length heads → IsLastBelow chains chain (length chains) (slice_index_or heads chain NONE)
  pub link : (i : ℕ) → i < length chains → IsLastBelow chains (slice_index chains i) i (slice_index_or links i NONE)

-- The rows are chained from these heads on, and their ends are of whole bytes.
pub record AreChained (rows : List Row) (heads : List Link) : Type 0 where
  pub whole : (m : ℕ) (row : Row) → slice_get rows m ≡ Some row → row.spare % 8 ≡ 0
  pub linked : IsChained (chains_of (length heads) rows) (links_of rows) heads
