pub mod ReadingLaws
pub mod Orders
pub mod Existence
pub mod VerdictLaws
pub mod PlainReadings
pub mod WorkedExamples
