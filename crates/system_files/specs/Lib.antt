pub mod User
