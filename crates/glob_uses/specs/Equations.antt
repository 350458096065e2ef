-- What a parser of one's own means, by equation: `whole_entries_are_these` ties `whole_of` to the readings of `gix_glob`.
pub mod Whole
