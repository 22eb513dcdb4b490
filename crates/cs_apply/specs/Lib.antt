pub mod Crash
pub use Rattle.cs_apply_engine.specs.Faults
pub use Rattle.cs_apply_engine.specs.Report
pub use Rattle.cs_apply_engine.specs.Running
pub use Rattle.cs_apply_engine.specs.Steps
pub use Rattle.cs_apply_engine.specs.Tally
