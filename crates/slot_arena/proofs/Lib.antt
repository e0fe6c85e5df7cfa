pub mod Joined
pub mod Times
pub mod PlaceLemmas
pub mod KeptLemmas
pub mod Paired
pub mod Fields
pub mod Reserving
pub mod SlotLaws
mod BlockShares
mod BlockMemory
mod BlockLayout
