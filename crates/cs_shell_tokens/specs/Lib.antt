pub mod Tokens
pub mod Words
pub mod Reading
pub mod Faults
pub use Rattle.cs_value.specs.Value
pub use Rattle.cs_value.specs.Quoting
