pub mod Promises
pub mod Answers
pub mod Steps
pub mod RunCount
