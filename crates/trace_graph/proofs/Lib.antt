mod Linking
pub mod Showing
pub mod Alone
