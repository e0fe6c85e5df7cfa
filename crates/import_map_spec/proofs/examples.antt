pub mod WrittenMaps
pub mod WorkedExamples
