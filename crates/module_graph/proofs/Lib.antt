pub mod WellMade
pub mod Naming
pub mod Many
pub mod Dealing
