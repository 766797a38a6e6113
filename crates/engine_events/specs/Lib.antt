pub mod Shows
pub mod Represents
pub mod Promises
