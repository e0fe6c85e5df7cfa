pub mod DepthExamples
pub mod TokenExamples
pub mod OutlineExamples
pub mod ReadingExamples
