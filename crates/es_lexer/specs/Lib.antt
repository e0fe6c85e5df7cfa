pub mod Open
pub mod State
pub mod Steps
pub mod Again
pub mod Outcomes
