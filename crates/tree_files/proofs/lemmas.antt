pub mod KeyLemmas
pub mod ClosedLemmas
pub mod FileLemmas
pub mod ShownLemmas
pub mod NarrowedLemmas
