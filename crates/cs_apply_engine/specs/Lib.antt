pub mod Faults
pub mod Report
pub mod Run
pub mod Running
pub mod Steps
pub mod Tally
pub mod Writes
