pub mod PutFiles
pub mod WorkedExamples
pub mod PackagePaths
