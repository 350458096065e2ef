pub mod reading
pub mod cutting
pub mod pruned
pub mod two_marks
