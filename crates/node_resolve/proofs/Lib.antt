pub mod Answering
pub mod Forms
pub mod PlaceLemmas
pub mod MemberLemmas
pub mod TargetLemmas
mod TargetLooks
pub mod BareLemmas
pub mod NameLemmas
pub mod MainLemmas
pub mod KeyLemmas
pub mod RuleLemmas
pub mod SelfLemmas
pub mod ValueLemmas
pub mod BuiltinLemmas
