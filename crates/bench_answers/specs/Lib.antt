pub mod Shown
pub mod Promises
pub mod Steps
