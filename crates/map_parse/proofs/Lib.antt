pub mod TextMapLemmas
pub mod ReachLemmas
pub mod FaultLemmas
pub mod ScopeLemmas
pub mod PlainNames
