mod Elements
pub mod GoalMaps
pub mod Writes
pub mod PlannedFiles
