-- Which patterns answer, each in turn, and what that takes.
pub mod Answering
pub mod AskedLemmas
pub mod DecidesOnce
pub mod DecidingLemmas
pub mod DecisionSums
pub mod Kinds
pub mod LastNumbers
pub mod MatchesUpTo
pub mod PairLemmas
pub mod PathsLemmas
pub mod PlaceOrder
pub mod StrippingLemmas
