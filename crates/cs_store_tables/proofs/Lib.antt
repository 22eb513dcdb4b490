pub mod FailureLemmas
pub mod KnownLemmas
pub mod PagedLists
pub mod ReadLemmas
pub mod StoreLemmas
pub mod StoredLists
pub mod WriteLemmas
