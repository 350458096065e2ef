-- Words that only private clauses cite: what the functions of the crate say to one another.
pub mod Bases
pub mod PartsLeft
pub mod Reading
