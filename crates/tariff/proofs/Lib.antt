pub mod Checking
pub mod Summing
pub mod Answering
