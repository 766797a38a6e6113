pub mod Account
pub mod Answers
pub mod Promises
pub mod Session
pub mod Steps
