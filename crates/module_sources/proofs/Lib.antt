mod SourceAnswers
mod RequestSpans
