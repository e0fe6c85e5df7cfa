pub mod SegmentLemmas
pub mod Replacing
pub mod Sizes
pub mod ConditionLemmas
pub mod AskLemmas
pub mod KeptCalls
pub mod ReduceLemmas
