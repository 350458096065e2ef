-- Words that only private clauses cite: what the functions of the crate say to one another.
pub mod Behind
pub mod Filling
pub mod Firsts
pub mod Heads
pub mod Narrowing
pub mod Places
pub mod Readings
pub mod Slots
pub mod Telling
