pub mod Sites
pub mod Packages
pub mod Traced
pub mod Examples
