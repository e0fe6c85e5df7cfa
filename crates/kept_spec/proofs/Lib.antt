pub mod Replaying
pub mod Certifying
pub mod Freshening
pub mod FrontLooks
pub mod examples
