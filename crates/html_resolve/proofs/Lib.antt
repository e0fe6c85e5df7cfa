pub mod OutcomeLemmas
pub mod FrontLemmas
pub mod WalkLemmas
