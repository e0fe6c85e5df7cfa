pub mod PrintedLists
pub mod Agreement
pub mod WorkedExamples
pub mod HeldLists
pub mod ShortExamples
