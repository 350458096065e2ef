-- Words that only private clauses cite: what the functions of the crate say to one another.
pub mod Answering
pub mod Asking
pub mod AttributeAnswers
pub mod AttributeRuns
pub mod AttributeWays
pub mod Faults
pub mod Filling
pub mod Finding
pub mod FoldedPaths
pub mod Ignoring
pub mod Listing
pub mod ListingFaults
pub mod Tops
pub mod UnderWay
