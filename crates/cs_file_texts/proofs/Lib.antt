pub mod GatherLemmas
pub mod SeparatedLemmas
pub mod TablesLemmas
pub mod TermLemmas
pub mod TextExamples
pub mod TextLemmas
pub mod WriteLemmas
