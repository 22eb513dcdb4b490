pub mod Hosting
pub use Rattle.cs_calls.specs.Steps
pub use Rattle.cs_store_memory.specs.Memory
