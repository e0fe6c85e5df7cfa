pub mod Rows
pub mod Leading
