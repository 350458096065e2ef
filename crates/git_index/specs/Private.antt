pub mod Folds
pub mod Parts
pub mod Places
pub mod Reading
pub mod Search
