pub mod Program
pub mod Holding
pub mod Refusing
pub mod Laws
