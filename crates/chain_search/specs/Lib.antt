pub mod Searches
pub mod Backs
pub mod Laws
pub mod PlainSearch
