pub mod Building
mod Finding
pub mod Growing
pub mod Joining
mod Sorting
pub mod Steps
pub mod TooMany
mod Walking
