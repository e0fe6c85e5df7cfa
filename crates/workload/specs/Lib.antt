pub mod Putting
pub mod Sure
