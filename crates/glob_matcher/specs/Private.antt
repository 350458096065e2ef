-- Words that only private clauses cite: what the functions of the crate say to one another.
pub mod Takes
pub mod Looks
pub mod Reader
pub mod Fitting
pub mod StarSearch
pub mod Scans
pub mod SetRuns
pub mod Finding
pub mod States
pub mod SizedTokens
pub mod Prices
pub mod Budget
pub mod Turns
pub mod Components
pub mod Spelling
