pub mod Faults
pub mod Rows
pub mod Editing
pub use Rattle.cs_value.specs.Value
pub use Rattle.cs_value.specs.Key
pub use Rattle.cs_value.specs.Table
pub use Rattle.cs_value.specs.State
