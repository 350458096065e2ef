pub mod Faults
pub mod Private
pub mod Progress
pub mod Records
pub mod Runs
pub mod Transfers
pub mod Watched
