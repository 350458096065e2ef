pub mod AttemptLemmas
pub mod StarLemmas
pub mod Alignments
