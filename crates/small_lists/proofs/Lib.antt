pub mod OfLength
pub mod Places
pub mod Complete
pub mod Sole
pub mod Meaning
pub mod Rows
pub mod Writing
pub mod Answers
