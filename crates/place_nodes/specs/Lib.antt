pub mod Rows
pub mod Nodes
pub mod Known
pub mod Growing
pub mod Building
