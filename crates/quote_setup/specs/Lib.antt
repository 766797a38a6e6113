pub mod Promises
pub mod Steps
