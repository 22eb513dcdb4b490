pub mod Folders
pub mod Applies
