pub mod Promises
pub mod Search
