pub mod Generatings
pub mod Digestings
pub mod KeptNeeds
pub mod Pairings
