pub mod AdoptionFailures
pub mod AdoptionLemmas
