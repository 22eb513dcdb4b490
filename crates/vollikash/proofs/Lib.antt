pub mod Examples
pub mod HandleGlue
pub mod HandleParts
pub mod HandleSteps
pub mod MessageLemmas
pub mod StoreLemmas
