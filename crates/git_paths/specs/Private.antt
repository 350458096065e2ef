-- Words that only private clauses cite: what the functions of the program say to one another.
pub mod Fronts
pub mod Usual
