-- Words that only private clauses cite: what the functions of the crate say to one another.
pub mod Asked
pub mod Asks
pub mod Keeping
pub mod Lists
pub mod Looking
pub mod Matching
pub mod Stack
