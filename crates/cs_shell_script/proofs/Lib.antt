pub mod LineLemmas
pub mod NetLawLemmas
pub mod NetLemmas
pub mod ProgressLemmas
pub mod RunLemmas
pub mod ScriptExamples
pub mod SessionLawLemmas
