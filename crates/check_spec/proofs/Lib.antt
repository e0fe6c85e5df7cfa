pub mod NeedLemmas
pub mod DifferenceLemmas
