pub mod Times
pub mod Tests
pub mod States
pub mod Leaves
pub mod Homes
pub mod Kept
pub mod Obeying
pub mod Writing
