pub mod Generating
pub mod Mapping
pub mod Paging
pub mod Digesting
pub mod Keeping
pub mod Pairing
