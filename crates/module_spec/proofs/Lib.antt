pub mod Suffixes
pub mod Tails
pub mod TokenLaws
pub mod SpanLemmas
pub mod BracketLaws
pub mod Terminals
pub mod FormLaws
mod CallLaws
pub mod OutlineLaws
pub mod OutlineReadings
pub mod examples
