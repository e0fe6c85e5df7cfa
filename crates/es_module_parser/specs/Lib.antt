pub mod Faults
pub mod Outlines
pub mod Progress
pub mod Declaring
pub mod Literals
pub mod Laws
