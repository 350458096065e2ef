-- Words that only laws state: no call's contract rests on them.
pub mod Leaving
pub mod Naming
pub mod Totals
