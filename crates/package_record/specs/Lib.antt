pub mod Shown
pub mod Fields
pub mod Indexed
pub mod Targets
