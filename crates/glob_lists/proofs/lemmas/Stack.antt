-- Stacks of prepared lists: what the lists answer together.
pub mod CountLemmas
pub mod FoundPairs
pub mod StackLemmas
