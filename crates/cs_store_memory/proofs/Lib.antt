pub mod HonestLemmas
pub mod CloseLemmas
pub mod FoundLemmas
