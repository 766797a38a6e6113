pub mod Plan
pub mod Promises
pub mod Steps
