pub mod Packages
pub mod WorkedExamples
pub mod Laws
