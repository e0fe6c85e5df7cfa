pub mod Chains
pub mod Trying
pub mod Laws
pub mod WorkedExamples
