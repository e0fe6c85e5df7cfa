pub mod Pending
pub mod Unwinding
pub mod Turning
pub mod Saying
