pub mod TextMaps
pub mod Parts
pub mod Faults
