mod Fronts
pub mod Explained
