pub mod Orders
pub mod Promises
pub mod Scenario
pub mod Steps
