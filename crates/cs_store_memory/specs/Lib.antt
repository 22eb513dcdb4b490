pub mod Memory
pub use Rattle.cs_store.specs.Store
pub use Rattle.cs_store.specs.Faults
