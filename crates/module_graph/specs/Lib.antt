pub mod Modules
pub mod Graphs
pub mod Calls
pub mod Many
pub mod Laws
