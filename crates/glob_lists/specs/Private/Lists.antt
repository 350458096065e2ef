-- The prepared list: its rows and their ends, walks over them, and what its entries answer.
pub mod Answering
pub mod Chains
pub mod Prepared
pub mod Walking
