pub mod Outcomes
pub mod Parts
pub mod Names
pub mod Strings
