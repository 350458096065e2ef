-- What the parsers of lines in `glob_lines` mean by equation is made of these. Its laws `plain_entries_are_these`,
-- `ignore_entries_are_these` and `label_entries_are_these` tie that to relations, for all arguments, so no reader need believe
-- them.
pub mod Entries
pub use Rattle.glob_patterns.specs.Equations.GitLines
pub use Rattle.glob_patterns.specs.Equations.Readings
