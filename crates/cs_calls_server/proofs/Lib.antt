pub mod FrameLemmas
pub mod ServingLemmas
