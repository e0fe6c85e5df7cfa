pub mod Segments
pub mod EntriesLemmas
pub mod Placings
pub mod FolderLemmas
