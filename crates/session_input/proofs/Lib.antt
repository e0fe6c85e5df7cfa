pub mod ByteTests
pub mod CutLemmas
pub mod LineLemmas
pub mod ReaderLemmas
