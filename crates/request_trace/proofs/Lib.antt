mod WalkLooks
pub mod AnswerLemmas
pub mod NamedModules
mod Lending
pub mod JoinedTables
pub mod AskedQuestions
pub mod TrailPaths
mod Showings
