pub mod Words
pub mod Projects
pub mod Laws
pub mod WorkedExamples
