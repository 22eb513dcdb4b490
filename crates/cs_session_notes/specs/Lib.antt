pub mod FirstImages
pub mod Attaching
pub mod Noting
pub mod Merging
pub mod Changes
pub mod Faults
pub mod Images
pub mod Views
