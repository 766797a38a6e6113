pub mod BetweenSteps
pub mod Promises
