pub mod KeyOrder
pub mod PlaceSteps
pub mod Values
