mod AskedAlike
mod GivenSlots
pub mod Filling
pub mod Joining
mod Led
mod FoundModules
mod KeyedPlaces
mod Repairing
mod PlannedParts
pub mod Neighbours
