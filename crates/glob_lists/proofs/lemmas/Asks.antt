-- What a pattern asks of a path, and what a path shows.
pub mod BitLemmas
pub mod EndNumbers
pub mod InsideLemmas
pub mod KeyLemmas
pub mod PrefilterLemmas
pub mod RawBytes
pub mod SightLemmas
pub mod ToldLemmas
