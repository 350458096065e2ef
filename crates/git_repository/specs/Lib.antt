pub mod GitFolders
pub mod Private
pub mod Safety
pub mod UserFiles
pub mod Values
