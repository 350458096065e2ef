-- Relations by equation. Each is tied to its relation by a law, so no reader need believe it: `head_of` to `IsHead` by
-- `heads_are_these`, `file_lines` to `FileLines` by `file_lines_are_these`, and `attributes_of` to `Attributes` by
-- `attributes_are_these`. The others are what these are made of.
pub mod Files
pub mod Heads
