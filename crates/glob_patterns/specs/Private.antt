-- Words that only private clauses cite: what the functions of the crate say to one another.
pub mod Asked
pub mod Fronts
pub mod Insides
pub mod Shown
