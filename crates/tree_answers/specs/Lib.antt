pub mod Attributes
pub mod Lines
pub mod Records
