pub mod LookExamples
