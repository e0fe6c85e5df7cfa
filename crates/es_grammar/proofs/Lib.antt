pub mod Unwound
pub mod Steps
pub mod Arms
pub mod Ends
pub mod Halting
pub mod Absences
pub mod Squares
pub mod Sayings
