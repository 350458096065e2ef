pub mod Asks
pub mod Deciding
pub mod Elements
pub mod Lists
pub mod Stack
