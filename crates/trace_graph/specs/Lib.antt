pub mod Links
pub mod Building
