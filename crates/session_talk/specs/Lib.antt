pub mod Editors
pub mod EditorLooks
pub mod Talking
