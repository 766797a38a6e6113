pub mod Rules
pub mod Bytes
pub mod Promises
