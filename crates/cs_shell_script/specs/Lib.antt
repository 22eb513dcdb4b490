pub mod Net
pub mod Shells
pub mod Laws
pub mod StoreRuns
pub mod Runs
pub mod SessionLaw
pub mod Progress
