pub mod ParsedMap
pub mod Parsing
pub mod Resolving
pub mod LookUps
pub mod Laws
pub mod WrittenMaps
pub mod WorkedExamples
