pub mod Layout
pub mod Represents
pub mod Steps
pub mod Promises
