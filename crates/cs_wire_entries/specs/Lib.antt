pub mod Entry
pub mod Changeset
pub mod Inverse
pub mod ReadFaults
pub mod Views
pub mod Items
pub mod Records
pub mod Reading
