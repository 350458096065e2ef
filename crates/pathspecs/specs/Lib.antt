pub mod Elements
pub mod Laws
pub mod Leading
pub mod Lists
pub mod Private
pub mod Reading
pub mod Spelling
