pub mod Names
pub mod Segments
pub mod Choosing
pub mod CallLaws
pub mod Reducing
