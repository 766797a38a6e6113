pub mod Represents
pub mod Answers
pub mod Promises
pub mod Steps
