pub mod Columns
pub mod Names
pub mod Rows
pub use Rattle.cs_value.specs.State
pub use Rattle.cs_value.specs.Key
pub use Rattle.cs_shell_grammar.specs.Commands
