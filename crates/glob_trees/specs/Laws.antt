-- Words that only laws state: no call's contract rests on them.
pub mod Emptying
pub mod Kept
