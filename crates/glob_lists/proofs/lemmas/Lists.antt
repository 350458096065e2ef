-- The prepared list: rows and their chains, walks, and what its entries answer.
pub mod ChainLemmas
pub mod ListLemmas
pub mod Looking
pub mod OneList
pub mod RowLemmas
pub mod WalkLemmas
