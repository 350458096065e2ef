pub mod FrontLeftLemmas
pub mod FrontLemmas
pub mod LaneLemmas
pub mod LastLemmas
pub mod NameLemmas
pub mod PathLemmas
pub mod SeenLemmas
pub mod UsualLemmas
