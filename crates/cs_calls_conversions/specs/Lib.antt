pub mod Keys
pub mod Columns
pub mod Pages
pub mod Refusals
pub mod Conflicts
