pub mod Below
pub mod Entries
pub mod Filling
pub mod Folders
pub mod Streams
