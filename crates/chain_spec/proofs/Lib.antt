pub mod Orders
pub mod Ways
pub mod Tries
pub mod ChainLaws
pub mod Examples
