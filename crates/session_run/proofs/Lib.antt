pub mod EditLemmas
pub mod SessionLemmas
pub mod TalkLemmas
