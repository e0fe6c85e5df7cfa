pub mod WordParts
pub mod Agreeing
pub mod SpotsSoFar
