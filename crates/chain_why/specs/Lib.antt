pub mod Shown
pub mod Answers
pub mod Askers
pub mod Reaching
