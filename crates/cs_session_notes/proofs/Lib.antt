pub mod CauseLemmas
mod EntriesLemmas
mod Examples
pub mod FirstLemmas
mod ImageLemmas
mod IndexLemmas
pub mod MergeLemmas
pub mod NotesLemmas
pub mod NotingLemmas
mod PendingLemmas
mod SchemaLemmas
mod TablesLemmas
mod WritesLemmas
