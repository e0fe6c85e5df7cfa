pub mod KnownLemmas
mod ReachedAgain
pub mod Certifying
pub mod RightAnswers
pub mod LookingAgain
pub mod CountingAll
pub mod FreshSteps
pub mod SharedFootprints
pub mod SeenNow
pub mod TableLemmas
pub mod ModuleLemmas
pub mod RequestLemmas
