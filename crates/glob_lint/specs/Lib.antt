pub mod Lines
pub mod Seen
pub mod Without
pub mod Ignoring
pub mod Effects
pub mod Private
