pub mod Vendored
pub mod Goals
pub mod Laws
