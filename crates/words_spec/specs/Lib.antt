pub mod PlainWords
pub mod Reading
pub mod Laws
