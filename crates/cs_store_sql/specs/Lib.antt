pub mod Failing
pub mod Faults
pub mod Layout
pub mod Marks
pub mod Meaning
pub mod Records
pub mod Statements
