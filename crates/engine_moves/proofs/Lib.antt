pub mod Bytes
pub mod Changes
pub mod Cells
pub mod FromCalls
pub mod FloorRaised
