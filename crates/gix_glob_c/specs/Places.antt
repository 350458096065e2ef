-- Where texts lie in memory.
pub use Rattle.glob_attributes.specs.Places.{IsPartOf}
