pub mod Entries
pub mod Folding
pub mod Format
pub mod Holding
pub mod Private
pub mod Split
