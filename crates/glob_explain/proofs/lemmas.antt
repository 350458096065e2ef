pub mod Putting
pub mod Signs
