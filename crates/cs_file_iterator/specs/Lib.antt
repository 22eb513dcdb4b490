pub mod Changes
pub mod Readable
pub mod Values
pub mod Steps
pub use Rattle.cs_wire.specs.Changeset
pub use Rattle.cs_wire.specs.Entry
pub use Rattle.cs_wire.specs.Items
