-- What a pattern asks of a path, and what a path shows.
pub mod Literals
pub mod Parts
pub mod Rows
pub mod Showing
pub mod Sights
