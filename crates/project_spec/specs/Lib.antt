pub mod ProjectFiles
pub mod Laws
