pub mod Contained
pub mod Backwards
pub mod Search
pub mod OneSearch
pub mod SearchExamples
