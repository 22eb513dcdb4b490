pub mod Examples
pub mod InvertLemmas
pub mod JoiningLemmas
pub mod NumberLemmas
pub mod PassLemmas
pub mod PrintLemmas
pub mod SelectLemmas
pub mod SelectionExamples
