pub mod WordExamples
pub mod WordsLemmas
