pub mod AnswerLemmas
pub mod FrontLemmas
pub mod IndexLemmas
pub mod InputLemmas
pub mod MatchLemmas
pub mod ListedLemmas
pub mod WayLemmas
