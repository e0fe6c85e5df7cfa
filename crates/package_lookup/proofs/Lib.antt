mod ReadingLemmas
pub mod PathSets
pub mod LookCounts
pub mod ButLast
mod SightAnswers
mod Folders
pub mod Reaching
pub mod Sights
pub mod NotedPaths
mod Growing
pub mod Questions
pub mod Learnings
pub mod Searches
pub mod RecordAnswers
pub mod Laying
pub mod SameLookups
