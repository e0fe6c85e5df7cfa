pub mod PrintedLists
pub mod Printed
pub mod LeastSizes
pub mod PlainRests
