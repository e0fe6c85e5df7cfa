pub mod StringLists
pub mod NameLemmas
pub mod PartLemmas
pub mod PrintLemmas
