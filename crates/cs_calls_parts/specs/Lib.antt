pub mod Faults
pub mod Spelling
pub mod Reading
