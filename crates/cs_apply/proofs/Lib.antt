pub mod RevertLemmas
pub mod CrashLemmas
pub mod TransactionLemmas
