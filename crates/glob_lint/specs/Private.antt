-- Words that only private clauses cite: what the functions of the crate say to one another.
pub mod Ends
pub mod LineRows
pub mod Parts
pub mod Rows
pub mod Running
pub mod Reasons
pub mod Pairs
pub mod Asking
pub mod Findings
pub mod Beginnings
