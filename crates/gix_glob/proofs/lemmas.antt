pub mod Bases
pub mod Copies
pub mod Elements
pub mod Limits
pub mod PathParts
pub mod Places
pub mod Rests
