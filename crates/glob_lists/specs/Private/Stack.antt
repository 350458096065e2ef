-- Stacks of prepared lists: what the lists answer together.
pub mod Finding
