pub mod Askings
pub mod Evaluation
pub mod Laws
