pub mod CrashLemmas
pub mod DeclareLemmas
pub mod FailureLemmas
pub mod LeftLemmas
pub mod OpeningLemmas
pub mod TransactLemmas
pub mod TurnLemmas
pub mod WithinLemmas
