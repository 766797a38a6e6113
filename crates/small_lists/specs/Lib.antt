pub mod Calls
pub mod Listing
pub mod Complete
pub mod Answers
pub mod Promises
pub mod Steps
