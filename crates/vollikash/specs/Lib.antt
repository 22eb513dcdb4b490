pub mod Answers
pub mod Follows
pub mod Groups
pub mod Iterating
pub mod Messages
pub mod Owned
pub mod Stores
