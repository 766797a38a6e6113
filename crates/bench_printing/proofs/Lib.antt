pub mod Appending
pub mod Room
