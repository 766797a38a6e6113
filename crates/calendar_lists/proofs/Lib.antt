pub mod Finds
pub mod Joins
pub mod HeadLaws
pub mod ListIn
pub mod ListOut
