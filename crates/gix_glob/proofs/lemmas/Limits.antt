-- How limits grow with the lengths that they are of.
pub use Rattle.glob_patterns.proofs.lemmas.PathLimits.{pattern_look_limit-le, pattern_step_limit-le, within_more}
