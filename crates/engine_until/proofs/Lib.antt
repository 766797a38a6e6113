pub mod Endings
pub mod Joins
pub mod TurnLaws
