pub mod Steps
pub mod Exact
pub mod PartLemmas
pub mod Codecs
pub mod ConflictCodecs
