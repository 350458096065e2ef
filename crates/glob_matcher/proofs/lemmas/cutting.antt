pub mod CutLemmas
pub mod SplitLemmas
pub mod PlaceLemmas
pub mod Engines
pub mod RestLemmas
pub mod SlashLemmas
pub mod OneMoreStar
pub mod NoSlashes
