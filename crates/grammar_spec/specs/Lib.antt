pub mod Sights
pub mod Forms
pub mod Statements
pub mod Readings
pub mod Verdicts
pub mod PlainReading
pub mod Examples
pub mod Laws
