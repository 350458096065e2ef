pub mod Paths
pub mod Rules
pub mod Deciding
pub mod DecisionLimits
pub mod Matches
pub mod Prepared
pub mod Private
