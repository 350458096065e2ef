-- Words that only private clauses cite: what the functions of the crate say to one another.
pub mod Answering
pub mod Taking
pub mod Parts
pub mod Places
pub mod Scopes
pub mod Sections
pub mod Settings
