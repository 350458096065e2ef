pub mod Asking
pub mod Texts
