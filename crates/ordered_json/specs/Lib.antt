pub mod IsJson
pub mod Lists
pub mod Shown
pub mod Scanned
pub mod Outcomes
pub mod Pairs
pub mod Lent
pub mod Appending
