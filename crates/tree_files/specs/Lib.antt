pub mod Closed
pub mod FileLists
pub mod Indexed
pub mod Narrowing
pub mod Telling
