pub mod Child
pub mod Promises
