pub mod Searching
pub mod Outcomes
pub mod Scripts
