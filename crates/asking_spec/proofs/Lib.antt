pub mod AskingLemmas
pub mod EvaluationLemmas
