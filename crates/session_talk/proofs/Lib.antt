pub mod AskLemmas
pub mod LookLemmas
pub mod ReadLemmas
pub mod ReplyLemmas
pub mod TalkLemmas
pub mod TurnLemmas
