pub mod Causes
pub mod Trying
pub mod Private
