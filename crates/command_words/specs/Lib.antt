pub mod Settings
pub mod Orders
pub mod Faults
