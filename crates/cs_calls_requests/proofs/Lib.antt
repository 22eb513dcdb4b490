pub mod KindLemmas
pub mod Calls
