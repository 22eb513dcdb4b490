pub mod Frames
pub mod Serving
pub use Rattle.cs_calls_answers.specs.Refusals
pub use Rattle.cs_calls_answers.specs.Spelling
pub use Rattle.cs_file_texts.specs.Told
pub use Rattle.cs_file_texts.specs.Calls
