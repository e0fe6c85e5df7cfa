pub mod RecordLemmas
mod NameLemmas
pub mod LeftLemmas
