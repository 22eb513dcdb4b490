pub mod Laws
pub use Rattle.cs_wire_entries.specs.ReadFaults
