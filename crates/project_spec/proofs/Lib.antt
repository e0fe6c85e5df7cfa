pub mod OneProject
pub mod ReadBack
pub mod SomeProject
pub mod FourMembers
