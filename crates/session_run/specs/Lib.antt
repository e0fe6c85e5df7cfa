pub mod Editing
pub mod Sessions
