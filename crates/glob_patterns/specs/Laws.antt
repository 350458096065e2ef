-- Words that laws alone cite, and no call's contract: what a law says of readings, patterns and values.
pub mod Foldings
pub mod Fronts
pub mod LiteralBytes
