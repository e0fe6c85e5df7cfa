pub mod Written
pub mod Suffixes
pub mod Serving
pub mod Asking
pub mod Kept
pub mod Joins
