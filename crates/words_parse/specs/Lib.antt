pub mod Explaining
pub mod Shown
