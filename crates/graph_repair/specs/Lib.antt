pub mod Matching
pub mod Finding
pub mod Repairs
pub mod Leads
pub mod Plans
pub mod Neighbours
