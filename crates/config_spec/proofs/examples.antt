pub mod WorkedExamples
