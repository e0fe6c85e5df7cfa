pub mod KnownLooks
pub mod WholeLooks
pub mod Entries
pub mod Tables
pub mod Freshness
pub mod Footprints
pub mod Puts
pub mod RightAnswers
