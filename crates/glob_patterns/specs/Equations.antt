-- Relations by equation, for whatever computes with them. Each is tied to its relation by a law, for all arguments, so no reader
-- need believe it: `readings_are_these` ties `reading_of` to `Reads` and `HasReading`, `git_readings_are_these` ties `git_reading_of` to
-- `GitReads`, and the others are what these are made of.
pub mod GitLines
pub mod Readings
