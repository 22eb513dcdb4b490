pub mod Hosts
pub mod Steps
pub use Rattle.cs_calls_requests.specs.Reading
pub use Rattle.cs_calls_requests.specs.Spelling
pub use Rattle.cs_calls_answers.specs.Spelling as Answers
pub use Rattle.cs_calls_server.specs.Serving
pub use Rattle.cs_calls_service.specs.Service
