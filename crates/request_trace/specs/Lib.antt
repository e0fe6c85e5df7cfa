pub mod Answering
pub mod Tracing
pub mod Footprints
pub mod Naming
pub mod Joining
pub mod Showing
