pub mod Part
pub mod Cost
