pub mod Calls
pub mod Spans
pub mod Listed
pub mod Passing
pub mod Letters
