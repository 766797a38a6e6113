-- The calls: what each keeps, how each is answered, and demand 3 over a list of them.
pub mod Commit
pub mod Posts
pub mod Invariant
pub mod Step
pub mod Room
pub mod Demand3
pub mod LogEvents
pub mod Tests
pub mod Compute
pub mod Lowest
pub mod Answered
pub mod OneAnswer
pub mod Alike
pub mod ButCounts
