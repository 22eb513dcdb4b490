pub mod CommandExamples
