pub mod CheckedLemmas
pub mod Examples
pub mod PartLemmas
pub mod ReadableLemmas
pub mod StepLemmas
pub mod ValueLemmas
pub mod WholeLemmas
