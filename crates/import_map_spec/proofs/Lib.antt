pub mod Codes
pub mod Entries
pub mod OneMap
pub mod SameQuestion
pub mod LongestKey
pub mod ResolvesByCases
pub mod ParsedMaps
pub mod examples
