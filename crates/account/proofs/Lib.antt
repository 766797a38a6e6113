pub mod Adding
pub mod Storing
pub mod Answers
pub mod Session
