pub mod IgnoreFilesLemmas
pub mod WordsLemmas
