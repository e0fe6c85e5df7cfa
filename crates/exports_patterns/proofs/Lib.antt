pub mod KeyLemmas
mod SameMatch
mod FrontLemmas
mod GatherLemmas
mod ChoiceLemmas
mod FewLemmas
