mod Choosing
mod Counts
mod Fits
mod Grouping
mod LaidGroups
pub mod Ordered
mod Penalties
mod Putting
mod Settling
mod Sizes
pub mod Updates
mod Ways
