pub mod Planning
pub mod Copying
pub mod Laws
