-- Relations by equation, for parsers, whose meaning is a list, and for whatever computes with them. Each is tied to its relation
-- by a law, for all arguments, so no reader need believe it: `lines_of` to `Lines` by `lines_are_these`, `plain_of` to `Plain` by
-- `plain_entries_are_these`, `ignore_of` to `Ignore` by `ignore_entries_are_these`, `git_entries_of` to `GitEntries` by
-- `git_entries_are_these`, and `label_of` to `Label` by `label_entries_are_these`. The others are what these are made of.
pub mod Entries
pub mod GitLines
pub mod Ignore
pub mod Label
pub mod Lines
pub mod Plain
