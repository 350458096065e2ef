pub mod Paths
pub mod Private
pub mod Quoting
pub mod Standpoints
