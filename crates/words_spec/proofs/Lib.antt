pub mod Values
pub mod PlainIsRead
pub mod ReadIsPlain
