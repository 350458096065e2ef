pub mod Answers
pub mod Listed
pub mod Matching
pub mod Running
pub mod Tracked
