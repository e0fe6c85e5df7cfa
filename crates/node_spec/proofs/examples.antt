pub mod WorkedExamples
pub mod TargetExamples
pub mod RecordExamples
pub mod PatternExamples
pub mod NodeExamples
